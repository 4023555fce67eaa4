use Rattle.std.proofs.Common.{◌+◌, ◌<◌, ◌≤◌, length, refl, ap, ◌∙◌, arith}
use Rattle.std.proofs.lemmas.List.{length-set}
use Rattle.nio_plain.proofs.Changing.{changed-step, changed-all}
use Rattle.nio_plain.specs.PlainState.{SelectorRow, selector_row, key_row, no_key, changed, swept_key}
use Rattle.nio_plain.proofs.plain.selector.Selector.sweep.Goals as goal

pub loop-index-preserved : goal.loop-index-preserved
loop-index-preserved c =
    let s = c.loop-index.self in
    let i = c.loop-index.index in
    let xs = s.keys.items in
    let keys = (selector_row c.args.self.now).keys in
    let within : i < length xs = omega (arith, s.keys.ok.0, c.loop-index.invariant.long) in
    let so_far = ap (λ r. r.keys) c.loop-index.invariant.swept in
    let step = changed-step key_row no_key (swept_key c.args.rules) keys xs i c.index_mut.result.now c.sweep.new.self
    so_far within c.index_mut.ensures.value c.sweep.ensures in
    let len = length-set xs i c.sweep.new.self in
    let other_keys : SelectorRow
    → SelectorRow = λ r. record r { keys = changed (swept_key c.args.rules) keys (i + 1) } in
    record {
      swept = (λ j. record (selector_row s) {
        keys_high = len j;
        keys = step j;
      }) ∙ ap other_keys c.loop-index.invariant.swept;
      long = c.loop-index.invariant.long;
    }

pub returns : goal.returns
returns c =
    let xs = c.args.self.now.keys.items in
    let past : length xs ≤ c.loop-index.index = omega (arith, c.args.self.now.keys.ok.0) in
    c.loop-index.invariant.swept
    ∙ ap (λ ks. record (selector_row c.args.self.now) { keys = ks })
    (changed-all key_row no_key (swept_key c.args.rules) xs c.loop-index.index past refl)
