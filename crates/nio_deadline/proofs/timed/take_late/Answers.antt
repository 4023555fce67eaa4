use Rattle.std.proofs.Common.{◌≡◌, ◌≢◌, ℕ, ◌∷◌, drop, arith, ◌∙◌, ap}
use Rattle.nio_deadline.proofs.TakeLemmas.{not-first, popped, starts-with}
use Rattle.nio_deadline.proofs.timed.take_late.Goals as goal

pub returns-then-first-op-clause-after : goal.returns-then-first-op-clause-after
returns-then-first-op-clause-after c =
    let ms = c.args.timed_out.now.items in
    let is = starts-with ms c.in-Some.first.now c.in-Some.ensures.item.3.0 c.in-Some.ensures.lookup in
    let other : c.in-Some.first.now ≢ c.args.op = λ same. absurd (omega arith) in
    (not-first c.args.op c.in-Some.first.now ms (drop 1 ms) is other c.requires).1

pub returns-clause-after : goal.returns-clause-after
returns-clause-after c =
    let ms = c.args.timed_out.now.items in
    let same : c.in-Some.first.now ≡ c.args.op = omega arith in
    let is = starts-with ms c.in-Some.first.now c.in-Some.ensures.item.3.0 c.in-Some.ensures.lookup in
    let front : ms ≡ c.args.op ∷ drop 1 ms = is ∙ ap (λ (n : ℕ). n ∷ drop 1 ms) same in
    c.pop_front.ensures.rest ∙ (popped c.args.op ms (drop 1 ms) front c.requires).1
