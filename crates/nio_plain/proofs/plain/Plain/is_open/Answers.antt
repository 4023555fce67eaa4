use Rattle.std.proofs.Common.{◌<◌, ◌≤◌, length, sym, ap, ◌∙◌, arith}
use Rattle.std.proofs.lemmas.Bool.{le-ltb}
use Rattle.nio_history.specs.Sets.{is_open_channel}
use Rattle.nio_history.specs.State.{unmade_channel}
use Rattle.nio_history.specs.declared.found.Chan.{Chan}
use Rattle.nio_plain.proofs.Places.{places_at, places_past}
use Rattle.nio_plain.specs.PlainState.{channel_row}
use Rattle.nio_plain.proofs.plain.Plain.is_open.Goals as goal

pub returns-then-number-len : goal.returns-then-number-len
returns-then-number-len c =
    let xs = c.args.self.now.channels.items in
    let n = c.args.chan.number.0 in
    let within : n < length xs = omega (arith, c.args.self.now.channels.ok.0) in
    c.is_open.ensures ∙ sym (ap (λ (r : Chan). is_open_channel r c.args.chan.serial)
    (places_at channel_row unmade_channel xs n c.index.result.now within c.index.ensures))

pub returns-else-number-len : goal.returns-else-number-len
returns-else-number-len c =
    let xs = c.args.self.now.channels.items in
    let n = c.args.chan.number.0 in
    let past : length xs ≤ n = omega (arith, c.args.self.now.channels.ok.0) in
    le-ltb n c.len.result c.if-number-len.false
    ∙ sym (ap (λ (r : Chan). is_open_channel r c.args.chan.serial) (places_past channel_row unmade_channel xs n past))
