use Rattle.std.proofs.Common.{◌+◌, ◌<◌, ℕ, take, length, ap, ◌∙◌, arith}
use Rattle.std.proofs.lemmas.List.{length-set}
use Rattle.nio_base.specs.declared.numbers.KeyId.{KeyId}
use Rattle.nio_plain.proofs.Sweeping.{swept_looked-turn}
use Rattle.nio_plain.specs.PlainState.{SelectorRow, selector_row, swept_looked}
use Rattle.nio_plain.proofs.plain.selector.Selector.sweep_looked.Goals as goal

pub loop-id-preserved : goal.loop-id-preserved
loop-id-preserved c =
    let s = c.loop-id.self in
    let rules = c.args.rules in
    let j = c.loop-id.id-index in
    let p = c.loop-id-item.result in
    let items = s.keys.items in
    let looked = c.args.looked.now in
    let keys = (selector_row c.args.self.now).keys in
    let there = ap (λ (q : KeyId × ℕ). q.0.index) c.loop-id-item.is in
    let in_keys' = c.requires.in_keys j p c.loop-id-test.true in
    let within : p.0.index < length items = omega (arith, s.keys.ok.0, c.loop-id.invariant.long) in
    let so_far = ap (λ (r : SelectorRow). r.keys) c.loop-id.invariant.swept in
    let step = swept_looked-turn rules keys looked items j p c.index_mut.result.now c.requires.rising
    c.loop-id-test.true c.loop-id-item.is so_far within c.index_mut.ensures.value c.remove_if_cancelled.new.self
    c.remove_if_cancelled.ensures in
    let len = length-set items p.0.index c.remove_if_cancelled.new.self in
    let other_keys : SelectorRow
    → SelectorRow = λ r. record r { keys = swept_looked rules keys (take (j + 1) looked) } in
    record {
      swept = (λ i. record (selector_row s) {
        keys_high = len i;
        keys = step i;
      }) ∙ ap other_keys c.loop-id.invariant.swept;
      long = c.loop-id.invariant.long;
    }
