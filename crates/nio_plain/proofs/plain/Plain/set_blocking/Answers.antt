use Rattle.std.proofs.Common.{◌≡◌, ◌<◌, false, ◌&&◌, refl, sym, ap, ◌∙◌, length, arith}
use Rattle.std.proofs.lemmas.Bool.{and_from, and_left, and_right}
use Rattle.nio_history.specs.Sets.{is_open_channel}
use Rattle.nio_history.specs.State.{unmade_channel, with_chan}
use Rattle.nio_history.specs.declared.found.Chan.{Chan}
use Rattle.nio_plain.proofs.Replying.{unchanged_without_memory, replied_without_memory, state-set_channel, rows_of}
use Rattle.nio_plain.proofs.Places.{places_at}
use Rattle.nio_plain.specs.PlainState.{state_of, limits_of, channel_row}
use Rattle.nio_plain.specs.ScriptState.{with_shared}
use Rattle.nio_plain.specs.Seq.Modes.{blocking_call, has_key}
use Rattle.nio_plain.proofs.plain.Plain.set_blocking.Goals as goal
use Rattle.nio_plain.proofs.plain.Plain.set_blocking.Goals.{else-on-via-then-on+else-has_key, else-on-via-else-on}

pub returns-in-Err : goal.returns-in-Err
unfolding blocking_call
returns-in-Err c = unchanged_without_memory c.args.self.now _ _ (c.in-Err.ensures.refused _)

pub returns-then-not-is_open : goal.returns-then-not-is_open
unfolding blocking_call
returns-then-not-is_open c =
    let closed = ap (λ (x : Chan). is_open_channel x c.args.chan.serial) c.in-Ok.ensures.row
    ∙ (sym c.is_open.ensures ∙ c.if-not-is_open.true) in
    unchanged_without_memory c.args.self.now _ _ (c.in-Ok.ensures.through _ ∙ rw closed refl)

pub returns-then-has_key : goal.returns-then-has_key
unfolding blocking_call
returns-then-has_key c =
    let p = c.args.self.now in
    let opened = ap (λ (x : Chan). is_open_channel x c.args.chan.serial) c.in-Ok.ensures.row
    ∙ (sym c.is_open.ensures ∙ c.if-not-is_open.false) in
    let registered = and_from c.args.on (has_key (limits_of p) (state_of p).shared c.args.chan.number.0) c.if-on.true
    (sym c.if-has_key.ensures) in
    unchanged_without_memory p _ _ (c.in-Ok.ensures.through _ ∙ rw (opened, registered) refl)

pub returns : goal.returns
unfolding blocking_call
returns c =
    let p = c.args.self.now in
    let st = state_of p in
    let chan = c.args.chan.number.0 in
    let within : chan < length p.channels.items = omega (arith, p.channels.ok.0, c.in-Ok.ensures.made) in
    let x = c.index_mut.result.now in
    let at = places_at channel_row unmade_channel p.channels.items chan x within c.index_mut.ensures.value in
    let opened = ap (λ (y : Chan). is_open_channel y c.args.chan.serial) c.in-Ok.ensures.row
    ∙ (sym c.is_open.ensures ∙ c.if-not-is_open.false) in
    let free : (c.args.on && has_key (limits_of p) (state_of p).shared chan)
    ≡ false =
    elim c.else-on.branch [
      | else-on-via-then-on+else-has_key w ↦ and_right c.args.on _ (sym w.if-has_key.ensures)
      | else-on-via-else-on w ↦ and_left c.args.on _ w.if-on.false
    ] in
    replied_without_memory _ _ _ _ _
    (c.in-Ok.ensures.through _ ∙ rw (opened, free) refl)
    refl
    (state-set_channel _ _ _ (rows_of p) p.channels.items _ chan (record x { blocking = c.args.on }) within refl
    ∙ ap (λ (r : Chan). with_shared st (with_chan st.shared chan (record r { blocking = c.args.on }))) (sym at))
    (record { limits = refl; rules = refl })
