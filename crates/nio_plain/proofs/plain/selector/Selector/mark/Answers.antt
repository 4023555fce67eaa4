use Rattle.std.proofs.Common.{◌+◌, ◌<◌, ℕ, take, length, ap, ◌∙◌, arith, bit_and, eqb, cond, get_or}
use Rattle.std.proofs.lemmas.List.{length-set, get_or_read}
use Rattle.nio_base.specs.declared.numbers.KeyId.{KeyId}
use Rattle.nio_plain.proofs.Marking.{marked_keys-turn}
use Rattle.nio_plain.specs.PlainState.{SelectorRow, KeyRow, selector_row, key_row, marked_keys}
use Rattle.nio_plain.specs.Seq.Selections.{marked}
use Rattle.nio_plain.proofs.plain.selector.Selector.mark.Goals as goal

pub loop-id-preserved : goal.loop-id-preserved
loop-id-preserved c =
    let s = c.loop-id.self in
    let j = c.loop-id.id-index in
    let p = c.loop-id-item.result in
    let items = s.keys.items in
    let looked = c.args.looked.now in
    let told = c.args.told.now in
    let keys = (selector_row c.args.self.now).keys in
    let there = ap (λ (q : KeyId × ℕ). q.0.index) c.loop-id-item.is in
    let in_told' = c.requires.in_told j p c.loop-id-test.true in
    let in_told : p.0.index < length told = omega arith in
    let within : p.0.index < length items = omega (arith, s.keys.ok.0, c.loop-id.invariant.long, c.requires.in_keys) in
    let k = c.index_mut.result.now in
    let bits = c.meet-bits.ensures
    ∙ ap (λ n. bit_and n p.1) (get_or_read told p.0.index c.index-told-id.result in_told c.index-told-id.is 0) in
    let done = c.mark_key.ensures
    ∙ ap (λ n. cond {A = KeyRow} (eqb k.serial p.0.serial) (record (key_row k) { mark = marked k.mark n })
    (key_row k)) bits in
    let so_far = ap (λ (r : SelectorRow). r.keys) c.loop-id.invariant.marked in
    let step = marked_keys-turn keys looked (λ i. get_or told i 0) items j p k c.requires.rising c.loop-id-test.true
    c.loop-id-item.is so_far within c.index_mut.ensures.value c.mark_key.new.self done in
    let len = length-set items p.0.index c.mark_key.new.self in
    let other_keys : SelectorRow
    → SelectorRow = λ r. record r { keys = marked_keys keys (take (j + 1) looked) (λ i. get_or told i 0) } in
    record {
      marked = (λ i. record (selector_row s) {
        keys_high = len i;
        keys = step i;
      }) ∙ ap other_keys c.loop-id.invariant.marked;
      long = c.loop-id.invariant.long;
    }
