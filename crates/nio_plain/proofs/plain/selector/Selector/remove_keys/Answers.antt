use Rattle.std.proofs.Common.{◌≡◌, ◌+◌, ◌<◌, false, length, ap, ◌∙◌, arith}
use Rattle.std.proofs.lemmas.List.{length-set}
use Rattle.nio_plain.proofs.Changing.{changed-step}
use Rattle.nio_plain.proofs.Closing.{emptied-all}
use Rattle.nio_plain.specs.PlainState.{SelectorRow, selector_row, key_row, no_key, changed, removed_row}
use Rattle.nio_plain.proofs.plain.selector.Selector.remove_keys.Goals as goal

pub loop-index-preserved : goal.loop-index-preserved
loop-index-preserved c =
    let s = c.loop-index.self in
    let i = c.loop-index.index in
    let xs = s.keys.items in
    let keys = (selector_row c.args.self.now).keys in
    let within : i < length xs = omega (arith, s.keys.ok.0, c.loop-index.invariant.long) in
    let so_far = ap (λ r. r.keys) c.loop-index.invariant.emptied in
    let step = changed-step key_row no_key (removed_row (λ _. false)) keys xs i c.index_mut.result.now c.remove.new.self
    so_far within c.index_mut.ensures.value c.remove.ensures in
    let len = length-set xs i c.remove.new.self in
    let other_keys : SelectorRow
    → SelectorRow = λ r. record r { keys = changed (removed_row (λ _. false)) keys (i + 1) } in
    record {
      emptied = (λ j. record (selector_row s) {
        keys_high = len j;
        keys = step j;
      }) ∙ ap other_keys c.loop-index.invariant.emptied;
      long = c.loop-index.invariant.long;
    }

pub returns : goal.returns
returns c =
    let xs = c.args.self.now.keys.items in
    let end : c.loop-index.index ≡ length xs = omega (arith, c.args.self.now.keys.ok.0) in
    let keys = (selector_row c.args.self.now).keys in
    c.loop-index.invariant.emptied
    ∙ ((λ j. record (selector_row c.args.self.now) { keys = changed (removed_row (λ _. false)) keys (end j) })
    ∙ ap (λ ks. record (selector_row c.args.self.now) { keys = ks }) (emptied-all xs))
