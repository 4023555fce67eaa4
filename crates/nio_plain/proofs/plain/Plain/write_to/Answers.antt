use Rattle.std.proofs.Common.{◌≡◌, ℕ, ◌-◌, ◌<◌, ◌++◌, length, min, take, refl, sym, ap, ◌∙◌, arith}
use Rattle.std.proofs.Math.Seq.{map-set_same}
use Rattle.std.proofs.lemmas.Bool.{eq-eqb, ne_eqb}
use Rattle.nio_language.specs.declared.reply.Reply.TheVariants as reply
use Rattle.nio_plain.proofs.Replying.{unchanged_as, replied_as, failed_as}
use Rattle.nio_plain.proofs.Piping.{changed_pipe, pipe_at-is}
use Rattle.nio_plain.specs.PlainState.{pipe_of, state_of}
use Rattle.nio_plain.specs.ScriptState.{Pipe, with_pipes}
use Rattle.nio_plain.specs.Seq.Replies.{unchanged}
use Rattle.nio_plain.specs.Seq.Pipes.{pipe_at}
use Rattle.nio_plain.specs.Seq.Piping.{room_for}
use Rattle.nio_plain.proofs.plain.Plain.write_to.Goals as goal

pub returns-then-room-eq0 : goal.returns-then-room-eq0
returns-then-room-eq0 c =
    let p = c.args.self.now in
    let st = state_of p in
    let x = c.index.result.now in
    let bytes = c.args.bytes.now in
    let within : c.args.place < length p.pipes.items = omega (arith, p.pipes.ok.0, c.requires) in
    let at = pipe_at-is p.pipes.items c.args.place x within c.index.ensures in
    let room : c.min-room.result ≡ min (length bytes) (65536 - length x.waiting.items) =
    omega (arith, x.waiting.ok.0) in
    let none = ap (room_for bytes) at ∙ (sym room ∙ c.if-room-eq0.true) in
    let size = room_for bytes (pipe_at st.pipes c.args.place) in
    unchanged_as p _ _
    (rw (eq-eqb size 0 none) (ap (unchanged st) (sym c.not_now.ensures)))

pub returns-in_err-put : goal.returns-in_err-put
returns-in_err-put c =
    let p = c.args.self.now in
    let x = c.index_mut.result.now in
    failed_as _ _ _ _ c.from_residual.ensures.0
    (ap (with_pipes (state_of p)) (map-set_same pipe_of p.pipes.items c.args.place c.put.new.self x
    (c.in_err-put.ensures.memory ∙ ap pipe_of c.index_mut.ensures.value)))
    (record { limits = refl; rules = refl })

pub returns : goal.returns
returns c =
    let p = c.args.self.now in
    let st = state_of p in
    let x = c.index.result.now in
    let y = c.index_mut.result.now in
    let bytes = c.args.bytes.now in
    let within : c.args.place < length p.pipes.items = omega (arith, p.pipes.ok.0, c.requires) in
    let at = pipe_at-is p.pipes.items c.args.place x within c.index.ensures in
    let size = room_for bytes (pipe_at st.pipes c.args.place) in
    let room : c.min-room.result ≡ min (length bytes) (65536 - length x.waiting.items) =
    omega (arith, x.waiting.ok.0) in
    let all : c.min-room.result ≡ size = room ∙ sym (ap (room_for bytes) at) in
    replied_as p _ _ _ _
    (rw (ne_eqb size 0 (λ e. c.if-room-eq0.false (all ∙ e))) refl)
    (ap reply.Number all)
    (ap (with_pipes st)
    (changed_pipe p.pipes.items c.args.place y c.put.new.self
    (λ (q : Pipe). record q { waiting = q.waiting ++ take size bytes })
    within c.index_mut.ensures.value
    (c.in_ok-put.ensures.left
    ∙ ap (λ (k : ℕ). record (pipe_of y) { waiting = y.waiting.items ++ take k bytes }) all)))
    (record { limits = refl; rules = refl })
