use Rattle.std.proofs.Common.{◌<◌, ◌≤◌, not, length, ap, ◌∙◌, arith}
use Rattle.std.proofs.lemmas.Bool.{le-ltb, lt-ltb}
use Rattle.nio_history.specs.Sets.{was_opened}
use Rattle.nio_history.specs.State.{unmade_channel}
use Rattle.nio_history.specs.declared.found.Chan.{Chan}
use Rattle.nio_plain.proofs.Naming.{channel-through, channel-refused}
use Rattle.nio_plain.proofs.Places.{places_at, places_past}
use Rattle.nio_plain.specs.PlainState.{state_of, channel_row}
use Rattle.nio_plain.proofs.plain.Plain.channel.Goals as goal

pub returns-then-number-len-clause-refused : goal.returns-then-number-len-clause-refused
returns-then-number-len-clause-refused c =
    let p = c.args.self.now in
    let past : length p.channels.items ≤ c.args.chan.number.0 = omega (arith, p.channels.ok.0) in
    channel-refused (state_of p) c.args.chan
    (ap (λ (x : Chan). was_opened x c.args.chan.serial)
    (places_past channel_row unmade_channel p.channels.items c.args.chan.number.0 past))

pub returns-then-channel-chan-clause-refused : goal.returns-then-channel-chan-clause-refused
returns-then-channel-chan-clause-refused c =
    let p = c.args.self.now in
    let x = c.index-channel.result.now in
    let within : c.args.chan.number.0 < length p.channels.items = omega (arith, p.channels.ok.0) in
    channel-refused (state_of p) c.args.chan
    (ap (λ (y : Chan). was_opened y c.args.chan.serial)
    (places_at channel_row unmade_channel p.channels.items c.args.chan.number.0 x within c.index-channel.ensures)
    ∙ ap not (lt-ltb x.serial c.args.chan.serial c.if-channel-chan.true))

pub returns-clause-through : goal.returns-clause-through
returns-clause-through c =
    let p = c.args.self.now in
    let x = c.index-channel.result.now in
    let within : c.args.chan.number.0 < length p.channels.items = omega (arith, p.channels.ok.0) in
    channel-through (state_of p) c.args.chan
    (ap (λ (y : Chan). was_opened y c.args.chan.serial)
    (places_at channel_row unmade_channel p.channels.items c.args.chan.number.0 x within c.index-channel.ensures)
    ∙ ap not (le-ltb x.serial c.args.chan.serial c.if-channel-chan.false))

pub returns-clause-row : goal.returns-clause-row
returns-clause-row c =
    let p = c.args.self.now in
    let within : c.args.chan.number.0 < length p.channels.items = omega (arith, p.channels.ok.0) in
    places_at channel_row unmade_channel p.channels.items c.args.chan.number.0 c.index-channel.result.now within
    c.index-channel.ensures
