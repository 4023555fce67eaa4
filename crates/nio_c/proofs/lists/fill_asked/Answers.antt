use Rattle.std.proofs.Common.{rules, ap, length, ◌∷◌, [], arith, ◌+◌, ◌<◌}
use Rattle.std.proofs.lemmas.List.{length-append}
use Rattle.nio_select.proofs.KeysTo.{fewer_below}
use Rattle.nio_select.specs.Asked.{keys_to}
use Rattle.nio_c.specs.Values.{as_looked}
use Rattle.nio_c.proofs.Filling.{known_more}
use Rattle.nio_c.proofs.lists.fill_asked.Goals as goal

pub bounds-into-count : goal.bounds-into-count
bounds-into-count c =
    omega (
      arith,
      c.loop-index.invariant.count,
      fewer_below c.loop-index.index c.in-Some.key c.args.asked.now.keys c.in-Some.ensures.next,
      c.requires,
      c.loop-index.auto.into,
    )

pub loop-index-preserved : goal.loop-index-preserved
loop-index-preserved c = elim c.match-key.branch [
  | goal.in-Some w ↦
      let i = c.loop-index.count in let known = keys_to c.loop-index.index c.args.asked.now.keys in
      let next = keys_to (c.loop-index.index + 1) c.args.asked.now.keys in
      let below : i < length c.args.into.now =
      omega (
        arith,
        c.loop-index.invariant.count,
        fewer_below c.loop-index.index w.in-Some.key c.args.asked.now.keys w.in-Some.ensures.next,
        c.requires,
      ) in
      record {
        count =
            omega (
              arith,
              w.count-is,
              c.loop-index.invariant.count,
              ap length w.in-Some.ensures.next,
              length-append known (w.in-Some.key ∷ []),
            );
        into = rw (w.into-is, w.count-is)
            (known_more as_looked known next c.args.into.now c.loop-index.into i w.in-Some.key w.of.result
            c.loop-index.invariant.count below c.loop-index.invariant.into w.in-Some.ensures.next w.of.ensures);
      }
  | goal.in_default w ↦ record { count = search rules; into = search rules }
]
