use Rattle.std.proofs.Common.{◌≡◌, ◌<◌, ap, sym, ◌∙◌, length, is_some, arith, below_more, get_or}
use Rattle.nio_plain.proofs.Places.{places_at}
use Rattle.nio_plain.proofs.Registered.{has_key-none, has_key-some}
use Rattle.nio_plain.specs.PlainState.{selector_row, no_selector, key_in}
use Rattle.nio_plain.proofs.plain.Plain.has_key.Goals as goal

pub loop-selector-preserved : goal.loop-selector-preserved
loop-selector-preserved c =
    let xs = c.args.self.now.selectors.items in
    let i = c.loop-selector.selector-index in
    let x = c.selector-item.result in
    let within : i < length xs = omega (arith, ap length c.deref-selector-items.ensures.value) in
    let item : x ≡ get_or xs i x = c.selector-item.is ∙ ap (λ ys. get_or ys i x) c.deref-selector-items.ensures.value in
    let here = ap (λ r. is_some (key_in r c.args.chan.0)) (places_at selector_row no_selector xs i x within item) in
    below_more _ _ c.loop-selector.invariant (here ∙ (ap is_some (sym c.key_of.ensures.key) ∙ sym c.if-is_some.ensures))

pub returns-then-is_some : goal.returns-then-is_some
returns-then-is_some c =
    let xs = c.args.self.now.selectors.items in
    let i = c.loop-selector.selector-index in
    let x = c.selector-item.result in
    let within : i < length xs = omega (arith, ap length c.deref-selector-items.ensures.value) in
    let item : x ≡ get_or xs i x = c.selector-item.is ∙ ap (λ ys. get_or ys i x) c.deref-selector-items.ensures.value in
    let here = ap (λ r. is_some (key_in r c.args.chan.0)) (places_at selector_row no_selector xs i x within item) in
    sym (has_key-some c.args.self.now c.args.chan.0 i within
    (here ∙ (ap is_some (sym c.key_of.ensures.key) ∙ sym c.if-is_some.ensures)))

pub returns : goal.returns
returns c =
    let len = ap length c.deref-selector-items.ensures.value in
    sym (has_key-none c.args.self.now c.args.chan.0 (λ k l. c.loop-selector.invariant k (omega arith)))
