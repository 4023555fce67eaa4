use Rattle.std.proofs.Common.{length, ap, sym, ◌∙◌}
use Rattle.std.proofs.lemmas.Bool.{ltb-false}
use Rattle.nio_history.specs.State.{unmade_channel}
use Rattle.nio_history.specs.declared.found.Chan.{Chan}
use Rattle.nio_plain.proofs.Places.{places_at, places_past}
use Rattle.nio_plain.specs.PlainState.{places, channel_row}
use Rattle.nio_plain.proofs.plain.Plain.kind_of.Goals as goal

pub returns-in-Some : goal.returns-in-Some
returns-in-Some c =
    let xs = c.deref.result.now in
    let there = places_at channel_row unmade_channel xs c.args.chan.0 c.in-Some.channel.now c.in-Some.ensures.lookup.3.0
    c.in-Some.ensures.lookup.1 in
    sym (ap (λ ys. (places channel_row unmade_channel ys c.args.chan.0).kind) (sym c.deref.ensures.value)
    ∙ ap (λ (x : Chan). x.kind) there)

pub returns-in-None : goal.returns-in-None
returns-in-None c =
    let xs = c.deref.result.now in
    let past = ltb-false c.args.chan.0 (length xs) (sym c.in-None.ensures.lookup.0) in
    sym (ap (λ ys. (places channel_row unmade_channel ys c.args.chan.0).kind) (sym c.deref.ensures.value)
    ∙ ap (λ (x : Chan). x.kind) (places_past channel_row unmade_channel xs c.args.chan.0 past))
