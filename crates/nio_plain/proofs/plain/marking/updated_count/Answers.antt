use Rattle.std.proofs.Common.{◌+◌, ◌<◌, ℕ, true, false, bit_and, get_or, length, sym, ap, ◌∙◌, arith}
use Rattle.std.proofs.lemmas.List.Sums.{count_by_more_yes, count_by_more_no}
use Rattle.nio_base.specs.declared.numbers.KeyId.{KeyId}
use Rattle.nio_plain.proofs.Marking.{updated-at}
use Rattle.nio_plain.specs.PlainState.{places, key_row, no_key}
use Rattle.nio_plain.specs.Seq.Selections.{is_updated}
use Rattle.nio_plain.specs.declared.plain.selector.Key.{Key}
use Rattle.nio_plain.proofs.plain.marking.updated_count.Goals as goal
use Rattle.nio_plain.proofs.plain.marking.updated_count.Goals.{then-is_updated, else-is_updated}

pub loop-key-preserved : goal.loop-key-preserved
loop-key-preserved c =
    let keys = c.args.keys.now in
    let told = c.args.told.now in
    let xs = c.args.looked.now in
    let j = c.loop-key.key-index in
    let p = c.loop-key-item.result in
    let test = λ (q : KeyId × ℕ). is_updated (places key_row no_key keys q.0.index).mark
    (bit_and (get_or told q.0.index 0) q.1) in
    let there = ap (λ (q : KeyId × ℕ). q.0.index) c.loop-key-item.is in
    let in_keys' = c.requires.in_keys j p c.loop-key-test.true in
    let in_told' = c.requires.in_told j p c.loop-key-test.true in
    let in_keys : p.0.index < length keys = omega arith in
    let in_told : p.0.index < length told = omega arith in
    let at = updated-at keys told p c.index-keys-key.result c.index-told-key.result c.meet-bits.result in
    let read = ap (λ (k : Key). is_updated k.mark c.meet-bits.result) (sym c.index-keys-key.is) in
    elim c.if-is_updated.branch [
      | then-is_updated w ↦
          rw w.count-is
          (ap (λ n. n + 1) c.loop-key.invariant
          ∙ sym (count_by_more_yes test xs j p c.loop-key-test.true
          (ap test (sym c.loop-key-item.is)
          ∙ at true in_keys c.index-keys-key.is in_told c.index-told-key.is c.meet-bits.ensures
          (w.if-is_updated.ensures ∙ read))))
      | else-is_updated w ↦
          rw w.count-is
          (c.loop-key.invariant
          ∙ sym (count_by_more_no test xs j p c.loop-key-test.true
          (ap test (sym c.loop-key-item.is)
          ∙ at false in_keys c.index-keys-key.is in_told c.index-told-key.is c.meet-bits.ensures
          (w.if-is_updated.ensures ∙ read))))
    ]
