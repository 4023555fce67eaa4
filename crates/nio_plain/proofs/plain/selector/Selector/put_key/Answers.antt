use Rattle.std.proofs.Common.{◌<◌, length, arith}
use Rattle.std.proofs.lemmas.List.{length-set}
use Rattle.nio_plain.proofs.Places.{places-set}
use Rattle.nio_plain.specs.PlainState.{key_row, no_key, selector_row}
use Rattle.nio_plain.proofs.plain.selector.Selector.put_key.Goals as goal

pub returns : goal.returns
returns c =
    let xs = c.args.self.now.keys.items in
    let within : c.args.index < length xs = omega (arith, c.args.self.now.keys.ok.0) in
    let keys = places-set key_row no_key xs c.args.index c.args.key within in
    let len = length-set xs c.args.index c.args.key in
    λ i. record (selector_row c.args.self.now) {
      keys_high = len i;
      keys = keys i;
    }
