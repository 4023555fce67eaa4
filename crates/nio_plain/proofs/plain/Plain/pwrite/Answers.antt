use Rattle.std.proofs.Common.{◌<◌, ◌&&◌, Some, length, refl, sym, ap, ◌∙◌, arith}
use Rattle.nio_history.specs.Sets.{is_open_channel}
use Rattle.nio_history.specs.declared.found.Chan.{Chan}
use Rattle.nio_plain.proofs.Replying.{unchanged_as, replied_as, of_word}
use Rattle.nio_plain.proofs.Piping.{pipe_at-is, place_within}
use Rattle.nio_plain.specs.PlainState.{state_of}
use Rattle.nio_plain.specs.Seq.Pipes.{owns_sink, pipe_at, with_seal}
use Rattle.nio_plain.specs.Seq.Piping.{has_open_source, pwrite_call, room_for, write_first, write_to}
use Rattle.nio_plain.proofs.plain.Plain.pwrite.Goals as goal

pub returns-in-Err : goal.returns-in-Err
unfolding pwrite_call
returns-in-Err c = unchanged_as c.args.self.now _ _ (c.in-Err.ensures.refused _)

pub returns-in_default : goal.returns-in_default
unfolding pwrite_call
returns-in_default c =
    let p = c.args.self.now in
    unchanged_as p _ _
    (c.in-Ok.ensures.through _
    ∙ ap (write_to (state_of p) c.args.me c.args.chan c.args.bytes.now) (sym c.in_default.ensures))

pub seal-requires : goal.seal-requires
seal-requires c =
    let p = c.args.self.now in
    let within : c.in-Some.place < length p.pipes.items =
    place_within (owns_sink c.args.me c.args.chan) p.pipes.items c.in-Some.place (sym c.in-Some.ensures) in
    omega (arith, p.pipes.ok.0)

pub returns-then-not-is_open : goal.returns-then-not-is_open
unfolding pwrite_call
returns-then-not-is_open c =
    let p = c.args.self.now in
    let st = state_of p in
    let closed = ap (λ (x : Chan). is_open_channel x c.args.chan.serial) c.in-Ok.ensures.row
    ∙ (sym c.is_open.ensures ∙ c.if-not-is_open.true) in
    replied_as p _ _ _ _
    (c.in-Ok.ensures.through _ ∙ (ap (write_to st c.args.me c.args.chan c.args.bytes.now) (sym c.in-Some.ensures)
    ∙ rw closed refl))
    refl
    c.seal.ensures.left
    c.seal.ensures.kept

pub returns-then-finds_interrupt : goal.returns-then-finds_interrupt
unfolding pwrite_call
returns-then-finds_interrupt c =
    let p = c.args.self.now in
    let st = state_of p in
    let opened = ap (λ (x : Chan). is_open_channel x c.args.chan.serial) c.in-Ok.ensures.row
    ∙ (sym c.is_open.ensures ∙ c.if-not-is_open.false) in
    let found =
    ap (λ (x : Chan). x.blocking && st.shared.interrupted c.args.me.0) c.in-Ok.ensures.row
    ∙ sym c.if-finds_interrupt.ensures in
    replied_as p _ _ _ _
    (c.in-Ok.ensures.through _ ∙ (ap (write_to st c.args.me c.args.chan c.args.bytes.now) (sym c.in-Some.ensures)
    ∙ (rw (opened, found) refl)))
    refl
    (c.seal-then-finds_interrupt.ensures.left ∙ ap (with_seal (Some c.in-Some.place)) c.shut_channel.ensures.left)
    (record {
      limits = c.seal-then-finds_interrupt.ensures.kept.limits ∙ c.shut_channel.ensures.kept.limits;
      rules = c.seal-then-finds_interrupt.ensures.kept.rules ∙ c.shut_channel.ensures.kept.rules;
    })

pub index-requires : goal.index-requires
index-requires c =
    let p = c.args.self.now in
    let within : c.in-Some.place < length p.pipes.items =
    place_within (owns_sink c.args.me c.args.chan) p.pipes.items c.in-Some.place (sym c.in-Some.ensures) in
    omega (arith, p.pipes.ok.0)

pub returns-then-not-is_open-2 : goal.returns-then-not-is_open-2
unfolding pwrite_call
returns-then-not-is_open-2 c =
    let p = c.args.self.now in
    let st = state_of p in
    let place = c.in-Some.place in
    let within : place < length p.pipes.items =
    place_within (owns_sink c.args.me c.args.chan) p.pipes.items place (sym c.in-Some.ensures) in
    let opened = ap (λ (x : Chan). is_open_channel x c.args.chan.serial) c.in-Ok.ensures.row
    ∙ (sym c.is_open.ensures ∙ c.if-not-is_open.false) in
    let none =
    ap (λ (x : Chan). x.blocking && st.shared.interrupted c.args.me.0) c.in-Ok.ensures.row
    ∙ sym c.if-finds_interrupt.ensures in
    let broken =
    ap (has_open_source st.shared)
    (pipe_at-is p.pipes.items place c.index.result.now within c.index.ensures)
    ∙ (sym c.is_open-2.ensures ∙ c.if-not-is_open-2.true) in
    unchanged_as p _ _
    (c.in-Ok.ensures.through _ ∙ (ap (write_to st c.args.me c.args.chan c.args.bytes.now) (sym c.in-Some.ensures)
    ∙ (rw (opened, none, broken) refl)))

pub returns-then-is_empty : goal.returns-then-is_empty
unfolding pwrite_call
returns-then-is_empty c =
    let p = c.args.self.now in
    let st = state_of p in
    let place = c.in-Some.place in
    let within : place < length p.pipes.items =
    place_within (owns_sink c.args.me c.args.chan) p.pipes.items place (sym c.in-Some.ensures) in
    let opened = ap (λ (x : Chan). is_open_channel x c.args.chan.serial) c.in-Ok.ensures.row
    ∙ (sym c.is_open.ensures ∙ c.if-not-is_open.false) in
    let none =
    ap (λ (x : Chan). x.blocking && st.shared.interrupted c.args.me.0) c.in-Ok.ensures.row
    ∙ sym c.if-finds_interrupt.ensures in
    let whole =
    ap (has_open_source st.shared)
    (pipe_at-is p.pipes.items place c.index.result.now within c.index.ensures)
    ∙ (sym c.is_open-2.ensures ∙ c.if-not-is_open-2.false) in
    unchanged_as p _ _
    (c.in-Ok.ensures.through _ ∙ (ap (write_to st c.args.me c.args.chan c.args.bytes.now) (sym c.in-Some.ensures)
    ∙ (rw (opened, none, whole, sym c.if-is_empty.ensures) refl)))

pub write_to-requires : goal.write_to-requires
write_to-requires c =
    let p = c.args.self.now in
    let within : c.in-Some.place < length p.pipes.items =
    place_within (owns_sink c.args.me c.args.chan) p.pipes.items c.in-Some.place (sym c.in-Some.ensures) in
    omega (arith, p.pipes.ok.0)

pub returns : goal.returns
unfolding pwrite_call
returns c =
    let p = c.args.self.now in
    let st = state_of p in
    let place = c.in-Some.place in
    let within : place < length p.pipes.items =
    place_within (owns_sink c.args.me c.args.chan) p.pipes.items place (sym c.in-Some.ensures) in
    let opened = ap (λ (x : Chan). is_open_channel x c.args.chan.serial) c.in-Ok.ensures.row
    ∙ (sym c.is_open.ensures ∙ c.if-not-is_open.false) in
    let none =
    ap (λ (x : Chan). x.blocking && st.shared.interrupted c.args.me.0) c.in-Ok.ensures.row
    ∙ sym c.if-finds_interrupt.ensures in
    let whole =
    ap (has_open_source st.shared)
    (pipe_at-is p.pipes.items place c.index.result.now within c.index.ensures)
    ∙ (sym c.is_open-2.ensures ∙ c.if-not-is_open-2.false) in
    of_word _ _ _ _ _
    (c.in-Ok.ensures.through _ ∙ (ap (write_to st c.args.me c.args.chan c.args.bytes.now) (sym c.in-Some.ensures)
    ∙ (rw (opened, none, whole, sym c.if-is_empty.ensures)
    (ap (λ (x : Chan). write_first st x.blocking c.args.bytes.now place
    (room_for c.args.bytes.now (pipe_at st.pipes place))) c.in-Ok.ensures.row))))
    c.write_to.ensures
