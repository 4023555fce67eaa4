use Rattle.std.proofs.Common.{[], ◌∷◌, ◌++◌, sym, ap, ◌∙◌, arith}
use Rattle.nio_plain.proofs.Places.{places_at}
use Rattle.nio_plain.proofs.Sweeping.{listed_below-yes, listed_below-no}
use Rattle.nio_plain.specs.PlainState.{places, key_row, no_key}
use Rattle.nio_plain.proofs.plain.sets.names.Goals as goal
use Rattle.nio_plain.proofs.plain.sets.names.Goals.{then-is_listed+in_ok-push, else-is_listed}

pub loop-index-preserved : goal.loop-index-preserved
loop-index-preserved c =
    let keys = places key_row no_key c.args.keys.now in
    let n = c.loop-index.index in
    let k = c.index-keys-index.result in
    let before = c.loop-index.invariant in
    let at = places_at key_row no_key c.args.keys.now n k c.loop-index-test.true c.index-keys-index.is in
    elim c.if-is_listed.branch [
      | then-is_listed+in_ok-push w ↦
          rw (w.names-is, w.in_ok-push.ensures.items, w.id.ensures)
          (record {
            listed = ap (λ ys. ys ++ record { index = n; serial = k.serial } ∷ []) before.listed
                ∙ sym (listed_below-yes keys n (key_row k) at c.args.selected (sym w.if-is_listed.ensures));
            few = omega (arith, w.in_ok-push.ensures.len);
          })
      | else-is_listed w ↦ rw w.names-is
          (record {
            listed = before.listed
                ∙ sym (listed_below-no keys n (key_row k) at c.args.selected (sym w.if-is_listed.ensures));
            few = omega arith;
          })
    ]
