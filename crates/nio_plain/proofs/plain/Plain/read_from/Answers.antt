use Rattle.std.proofs.Common.{◌≡◌, ◌≢◌, ℕ, ◌<◌, cond, List, [], drop, length, take, refl, sym, ap, ◌∙◌, arith}
use Rattle.std.proofs.Math.Seq.{map-set_same}
use Rattle.std.proofs.lemmas.Bool.{eq-eqb, eqb-true, false≢true}
use Rattle.std.proofs.lemmas.List.{nil_from_length}
use Rattle.nio_language.specs.declared.reply.Reply.TheVariants as reply
use Rattle.nio_plain.proofs.Replying.{unchanged_as, replied_as, failed_as}
use Rattle.nio_plain.proofs.Piping.{changed_pipe, pipe_at-is, read_first-none, read_first-some}
use Rattle.nio_plain.specs.PlainState.{pipe_of, state_of}
use Rattle.nio_plain.specs.ScriptState.{Pipe, with_pipes}
use Rattle.nio_plain.specs.Seq.Replies.{unchanged}
use Rattle.nio_plain.specs.Seq.Pipes.{pipe_at}
use Rattle.nio_plain.specs.Seq.Piping.{not_now}
use Rattle.nio_plain.proofs.plain.Plain.read_from.Goals as goal

pub returns-then-is_empty : goal.returns-then-is_empty
returns-then-is_empty c =
    let p = c.args.self.now in
    let st = state_of p in
    let x = c.index-pipe.result.now in
    let blocking = c.args.channel.blocking in
    let within : c.args.place < length p.pipes.items = omega (arith, p.pipes.ok.0, c.requires) in
    let at = pipe_at-is p.pipes.items c.args.place x within c.index-pipe.ensures in
    let size : length x.waiting.items ≡ 0 =
    omega (arith, x.waiting.ok.0, eqb-true x.waiting.len 0 (sym c.if-is_empty.ensures)) in
    let none = ap (λ (q : Pipe). q.waiting) at ∙ nil_from_length x.waiting.items size in
    unchanged_as p _ _
    (read_first-none st blocking c.args.most c.args.place _ (pipe_at st.pipes c.args.place).sealed none
    ∙ ap (unchanged st)
    (ap (λ (q : Pipe). cond q.sealed reply.End (not_now blocking)) at ∙ sym c.end_or_not_now.ensures))

pub returns-in_err-bytes : goal.returns-in_err-bytes
returns-in_err-bytes c =
    let p = c.args.self.now in
    let x = c.index_mut.result.now in
    failed_as _ _ _ _ c.from_residual.ensures.0
    (ap (with_pipes (state_of p)) (map-set_same pipe_of p.pipes.items c.args.place c.take.new.self x
    (c.in_err-bytes.ensures.memory ∙ ap pipe_of c.index_mut.ensures.value)))
    (record { limits = refl; rules = refl })

pub returns : goal.returns
returns c =
    let p = c.args.self.now in
    let st = state_of p in
    let x = c.index-pipe.result.now in
    let y = c.index_mut.result.now in
    let n = c.args.most in
    let within : c.args.place < length p.pipes.items = omega (arith, p.pipes.ok.0, c.requires) in
    let read = pipe_at-is p.pipes.items c.args.place x within c.index-pipe.ensures in
    let at = pipe_at-is p.pipes.items c.args.place y within c.index_mut.ensures.value in
    let some : (pipe_at st.pipes c.args.place).waiting ≢ [] =
    λ e.
    let none = sym (ap (λ (q : Pipe). q.waiting) read) ∙ e in
    let size : x.waiting.len ≡ 0 = omega (arith, x.waiting.ok.0, ap length none) in
    absurd (false≢true (c.if-is_empty.ensures ∙ eq-eqb x.waiting.len 0 size)) in
    replied_as p _ _ _ _
    (read_first-some st c.args.channel.blocking n c.args.place _ (pipe_at st.pipes c.args.place).sealed some)
    (ap (λ (bytes : List ℕ). reply.Bytes bytes)
    (c.from_vec.ensures ∙ (c.in_ok-bytes.ensures.bytes ∙ sym (ap (λ (q : Pipe). take n q.waiting) at))))
    (ap (with_pipes st)
    (changed_pipe p.pipes.items c.args.place y c.take.new.self (λ (q : Pipe). record q { waiting = drop n q.waiting })
    within c.index_mut.ensures.value c.in_ok-bytes.ensures.left))
    (record { limits = refl; rules = refl })
