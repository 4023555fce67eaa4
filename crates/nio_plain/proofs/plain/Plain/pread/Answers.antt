use Rattle.std.proofs.Common.{◌<◌, ◌&&◌, length, refl, sym, ap, ◌∙◌, arith}
use Rattle.std.proofs.lemmas.Bool.{eq-eqb, ne_eqb}
use Rattle.nio_history.specs.Sets.{is_open_channel}
use Rattle.nio_history.specs.declared.found.Chan.{Chan}
use Rattle.nio_plain.proofs.Replying.{unchanged_as, replied_as, of_word}
use Rattle.nio_plain.proofs.Piping.{place_within}
use Rattle.nio_plain.specs.PlainState.{state_of}
use Rattle.nio_plain.specs.Seq.Pipes.{owns_source, pipe_at}
use Rattle.nio_plain.specs.Seq.Piping.{pread_call, read_first, read_from}
use Rattle.nio_plain.proofs.plain.Plain.pread.Goals as goal

pub returns-in-Err : goal.returns-in-Err
unfolding pread_call
returns-in-Err c = unchanged_as c.args.self.now _ _ (c.in-Err.ensures.refused _)

pub returns-in_default : goal.returns-in_default
unfolding pread_call
returns-in_default c =
    let p = c.args.self.now in
    let st = state_of p in
    unchanged_as p _ _
    (c.in-Ok.ensures.through _ ∙ ap (read_from st c.args.me c.args.chan c.args.most) (sym c.in_default.ensures))

pub returns-then-not-is_open : goal.returns-then-not-is_open
unfolding pread_call
returns-then-not-is_open c =
    let p = c.args.self.now in
    let st = state_of p in
    let closed = ap (λ (x : Chan). is_open_channel x c.args.chan.serial) c.in-Ok.ensures.row
    ∙ (sym c.is_open.ensures ∙ c.if-not-is_open.true) in
    unchanged_as p _ _
    (c.in-Ok.ensures.through _ ∙ (ap (read_from st c.args.me c.args.chan c.args.most) (sym c.in-Some.ensures)
    ∙ rw closed refl))

pub returns-then-finds_interrupt : goal.returns-then-finds_interrupt
unfolding pread_call
returns-then-finds_interrupt c =
    let p = c.args.self.now in
    let st = state_of p in
    let opened = ap (λ (x : Chan). is_open_channel x c.args.chan.serial) c.in-Ok.ensures.row
    ∙ (sym c.is_open.ensures ∙ c.if-not-is_open.false) in
    let found =
    ap (λ (x : Chan). x.blocking && st.shared.interrupted c.args.me.0) c.in-Ok.ensures.row
    ∙ sym c.if-finds_interrupt.ensures in
    replied_as p _ _ _ _
    (c.in-Ok.ensures.through _ ∙ (ap (read_from st c.args.me c.args.chan c.args.most) (sym c.in-Some.ensures)
    ∙ (rw (opened, found) refl)))
    refl
    c.shut_channel.ensures.left
    c.shut_channel.ensures.kept

pub returns-then-most-eq0 : goal.returns-then-most-eq0
unfolding pread_call
returns-then-most-eq0 c =
    let p = c.args.self.now in
    let st = state_of p in
    let opened = ap (λ (x : Chan). is_open_channel x c.args.chan.serial) c.in-Ok.ensures.row
    ∙ (sym c.is_open.ensures ∙ c.if-not-is_open.false) in
    let none =
    ap (λ (x : Chan). x.blocking && st.shared.interrupted c.args.me.0) c.in-Ok.ensures.row
    ∙ sym c.if-finds_interrupt.ensures in
    unchanged_as p _ _
    (c.in-Ok.ensures.through _ ∙ (ap (read_from st c.args.me c.args.chan c.args.most) (sym c.in-Some.ensures)
    ∙ (rw (opened, none, eq-eqb c.args.most 0 c.if-most-eq0.true) refl)))

pub read_from-requires : goal.read_from-requires
read_from-requires c =
    let p = c.args.self.now in
    let within : c.in-Some.place < length p.pipes.items =
    place_within (owns_source c.args.me c.args.chan) p.pipes.items c.in-Some.place (sym c.in-Some.ensures) in
    omega (arith, p.pipes.ok.0)

pub returns : goal.returns
unfolding pread_call
returns c =
    let p = c.args.self.now in
    let st = state_of p in
    let opened = ap (λ (x : Chan). is_open_channel x c.args.chan.serial) c.in-Ok.ensures.row
    ∙ (sym c.is_open.ensures ∙ c.if-not-is_open.false) in
    let none =
    ap (λ (x : Chan). x.blocking && st.shared.interrupted c.args.me.0) c.in-Ok.ensures.row
    ∙ sym c.if-finds_interrupt.ensures in
    of_word _ _ _ _ _
    (c.in-Ok.ensures.through _ ∙ (ap (read_from st c.args.me c.args.chan c.args.most) (sym c.in-Some.ensures)
    ∙ (rw (opened, none, ne_eqb c.args.most 0 c.if-most-eq0.false)
    (ap (λ (x : Chan). read_first st x.blocking c.args.most c.in-Some.place (pipe_at st.pipes c.in-Some.place).waiting
    (pipe_at st.pipes c.in-Some.place).sealed) c.in-Ok.ensures.row))))
    c.read_from.ensures
