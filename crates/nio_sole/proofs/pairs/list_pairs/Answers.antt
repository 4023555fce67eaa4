use Rattle.std.proofs.Common.{◌≡◌, length, map, ap, sym, ◌∙◌, arith}
use Rattle.std.proofs.lemmas.List.{length-map}
use Rattle.nio_select.specs.Asked.{keys_to}
use Rattle.nio_serial.specs.Documented.{looked_pair}
use Rattle.nio_select.proofs.KeysTo.{none_below, fewer_below}
use Rattle.nio_sole.proofs.pairs.list_pairs.Goals as goal

pub loop-index-init : goal.loop-index-init
loop-index-init c = record {
  items = c.requires.empty ∙ sym (ap (map looked_pair) (none_below c.args.asked.now.keys));
  room = c.requires.room;
}

pub add-requires : goal.add-requires
add-requires c =
    let keys = c.args.asked.now.keys in
    let fewer = fewer_below c.loop-index.index c.in-Some.key keys c.in-Some.ensures.next in
    let listed = ap length c.loop-index.invariant.items in
    let pairs = length-map (keys_to c.loop-index.index keys) looked_pair in
    omega (arith, fewer, listed, pairs, c.loop-index.invariant.room)

pub returns : goal.returns
returns c =
    let keys = c.args.asked.now.keys in
    let at_end : c.loop-index.index ≡ c.bound-index-end.result = omega arith in
    c.loop-index.invariant.items
    ∙ ap (map looked_pair) (ap (λ n. keys_to n keys) at_end ∙ c.bound-index-end.ensures.all)
