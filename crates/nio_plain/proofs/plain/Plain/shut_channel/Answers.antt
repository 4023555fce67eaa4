use Rattle.std.proofs.Common.{◌<◌, true, length, refl, sym, ap, ◌∙◌, arith}
use Rattle.nio_history.specs.State.{unmade_channel, with_chan}
use Rattle.nio_history.specs.declared.found.Chan.{Chan}
use Rattle.nio_plain.proofs.Replying.{state-set_channel, rows_of}
use Rattle.nio_plain.proofs.Places.{places_at}
use Rattle.nio_plain.specs.PlainState.{state_of, channel_row}
use Rattle.nio_plain.specs.ScriptState.{ScriptState, with_shared}
use Rattle.nio_plain.specs.Seq.Cancelling.{with_keys_cancelled}
use Rattle.nio_plain.proofs.plain.Plain.shut_channel.Goals as goal

pub returns-clause-left : goal.returns-clause-left
returns-clause-left c =
    let p = c.args.self.now in
    let st = state_of p in
    let chan = c.args.chan.0 in
    let x = c.index_mut.result.now in
    let within : chan < length p.channels.items = omega (arith, p.channels.ok.0, c.requires) in
    let at = places_at channel_row unmade_channel p.channels.items chan x within c.index_mut.ensures.value in
    let bit = state-set_channel _ _ _ (rows_of p) p.channels.items _ chan (record x { closed = true }) within refl
    ∙ ap (λ (r : Chan). with_shared st (with_chan st.shared chan (record r { closed = true }))) (sym at) in
    c.cancel_keys_of.ensures.left ∙ ap (λ (m : ScriptState). with_shared m (with_keys_cancelled m.shared chan)) bit
