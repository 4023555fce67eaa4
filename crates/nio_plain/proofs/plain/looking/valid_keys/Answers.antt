use Rattle.std.proofs.Common.{◌+◌, ◌<◌, ℕ, [], ◌∷◌, ◌++◌, sym, ap, ◌∙◌, arith}
use Rattle.std.proofs.lemmas.List.Elements.{All-push, All-weaker}
use Rattle.std.proofs.lemmas.List.Quantifiers.{all_pairs_push}
use Rattle.nio_base.specs.declared.numbers.KeyId.{KeyId}
use Rattle.nio_plain.proofs.Places.{places_at}
use Rattle.nio_plain.proofs.Sweeping.{looked_below-valid, looked_below-other}
use Rattle.nio_plain.specs.PlainState.{places, key_row, no_key}
use Rattle.nio_plain.proofs.plain.looking.valid_keys.Goals as goal
use Rattle.nio_plain.proofs.plain.looking.valid_keys.Goals.{then-is_valid+in_ok-push, else-is_valid}

pub loop-index-preserved : goal.loop-index-preserved
loop-index-preserved c =
    let keys = places key_row no_key c.args.keys.now in
    let n = c.loop-index.index in
    let k = c.index-keys-index.result in
    let xs = c.loop-index.looked.items in
    let before = c.loop-index.invariant in
    let name : KeyId = record { index = n; serial = k.serial } in
    let at = places_at key_row no_key c.args.keys.now n k c.loop-index-test.true c.index-keys-index.is in
    let below_more = All-weaker (λ (p : KeyId × ℕ). p.0.index < n) (λ (p : KeyId × ℕ). p.0.index < n + 1)
    (λ p h. omega arith) xs before.below in
    elim c.if-is_valid.branch [
      | then-is_valid+in_ok-push w ↦
          rw (w.looked-is, w.in_ok-push.ensures.items, w.id.ensures)
          (record {
            looked = ap (λ ys. ys ++ (name, k.interest) ∷ []) before.looked
                ∙ sym (looked_below-valid keys n (key_row k) at (sym w.if-is_valid.ensures));
            rising = all_pairs_push (λ (p q : KeyId × ℕ). p.0.index < q.0.index) xs
                (name, k.interest) before.rising before.below;
            below = All-push (λ (p : KeyId × ℕ). p.0.index < n + 1) xs (name, k.interest) below_more (omega arith);
            few = omega (arith, w.in_ok-push.ensures.len);
          })
      | else-is_valid w ↦ rw w.looked-is
          (record {
            looked = before.looked ∙ sym (looked_below-other keys n (key_row k) at (sym w.if-is_valid.ensures));
            rising = before.rising;
            below = below_more;
            few = omega arith;
          })
    ]
