use Rattle.std.proofs.Common.{◌≡◌, ℕ, ◌-◌, List, length, min, take, ap, ◌∙◌, arith}
use Rattle.std.proofs.lemmas.List.{take_min}
use Rattle.nio_plain.proofs.Piping.{left_by_take}
use Rattle.nio_plain.specs.PlainState.{pipe_of}
use Rattle.nio_plain.proofs.plain.pipe.Pipe.take.Goals as goal

pub returns-clause-bytes : goal.returns-clause-bytes
returns-clause-bytes c =
    let xs = c.args.self.now.waiting.items in
    let count : c.min-count.result ≡ min c.args.most (length xs) = omega (arith, c.args.self.now.waiting.ok.0) in
    c.in_ok-bytes.ensures.items
    ∙ (ap (λ (ys : List ℕ). take c.min-count.result ys) c.deref.ensures.value
    ∙ (ap (λ (k : ℕ). take k xs) count ∙ take_min c.args.most xs))

pub returns-clause-left : goal.returns-clause-left
returns-clause-left c =
    let xs = c.args.self.now.waiting.items in
    let count : c.min-count.result ≡ min c.args.most (length xs) = omega (arith, c.args.self.now.waiting.ok.0) in
    let size : c.len-2.result - c.min-count.result ≡ length xs - c.min-count.result =
    omega (arith, c.args.self.now.waiting.ok.0) in
    let left =
    c.truncate.ensures.items
    ∙ (ap (λ (k : ℕ). take k c.rotate_left.new.self.items) size
    ∙ (ap (λ (ys : List ℕ). take (length xs - c.min-count.result) ys) c.rotate_left.ensures.items
    ∙ left_by_take xs c.args.most c.min-count.result count)) in
    λ i. record (pipe_of c.args.self.now) { waiting = left i }
