use Rattle.std.proofs.Common.{◌≡◌, ◌<◌, ap, sym, ◌∙◌, length, get_or, arith, below_more}
use Rattle.nio_plain.proofs.Found.{find_first, find_none}
use Rattle.nio_plain.proofs.Places.{places_at}
use Rattle.nio_plain.specs.PlainState.{KeyRow, places, key_row, no_key}
use Rattle.nio_plain.proofs.plain.selector.Selector.free_index.Goals as goal

pub loop-index-preserved : goal.loop-index-preserved
loop-index-preserved c =
    let xs = c.args.self.now.keys.items in
    let i = c.loop-index.index in
    let k = c.key-item.result in
    let within : i < length xs = omega (arith, ap length c.deref-key-items.ensures.value) in
    let item : k ≡ get_or xs i k = c.key-item.is ∙ ap (λ ys. get_or ys i k) c.deref-key-items.ensures.value in
    let here = ap (λ (r : KeyRow). r.free) (places_at key_row no_key xs i k within item) in
    below_more _ _ c.loop-index.invariant (here ∙ sym c.if-is_free.ensures)

pub returns-then-is_free-clause-least : goal.returns-then-is_free-clause-least
returns-then-is_free-clause-least c =
    let xs = c.args.self.now.keys.items in
    let i = c.loop-index.index in
    let k = c.key-item.result in
    let within : i < length xs = omega (arith, ap length c.deref-key-items.ensures.value) in
    let item : k ≡ get_or xs i k = c.key-item.is ∙ ap (λ ys. get_or ys i k) c.deref-key-items.ensures.value in
    let here = ap (λ (r : KeyRow). r.free) (places_at key_row no_key xs i k within item) in
    sym (find_first (λ n. (places key_row no_key xs n).free) (length xs) i within
    (here ∙ sym c.if-is_free.ensures) c.loop-index.invariant)

pub returns-clause-least : goal.returns-clause-least
returns-clause-least c =
    let xs = c.args.self.now.keys.items in
    let len = ap length c.deref-key-items.ensures.value in
    sym (find_none (λ n. (places key_row no_key xs n).free) (length xs)
    (λ k l. c.loop-index.invariant k (omega (arith, len))))
