use Rattle.std.proofs.Common.{◌≡◌, suc, ◌+◌, ◌<◌, Some, ap, sym, ◌∙◌, length, arith, add-one}
use Rattle.std.proofs.lemmas.Bool.{and_parts, ltb-true}
use Rattle.nio_base.specs.declared.numbers.KeyId.{KeyId}
use Rattle.nio_base.specs.Numbers.{last_serial}
use Rattle.nio_plain.proofs.Found.{found_below}
use Rattle.nio_plain.proofs.Places.{places_at}
use Rattle.nio_plain.specs.PlainState.{KeyRow, places, key_row, no_key, selector_row, next_by_row}
use Rattle.nio_plain.proofs.plain.selector.Selector.next_key.Goals as goal

pub overflow_add-serial : goal.overflow_add-serial
overflow_add-serial c =
    let xs = c.args.self.now.keys.items in
    let i = c.in-Some.index in
    let k = c.index.result.now in
    let within : i < length xs = omega (arith, c.args.self.now.keys.ok.0, c.in-Some.ensures.there) in
    let free = (found_below (λ n. (places key_row no_key xs n).free) (length xs) i (sym c.in-Some.ensures.least)).0 in
    let here = ap (λ (r : KeyRow). r.free) (sym (places_at key_row no_key xs i k within c.index.ensures)) ∙ free in
    let below : k.serial < last_serial = ltb-true k.serial last_serial (and_parts k.released _ here).1 in
    omega arith

pub returns-in-Some-clause-next : goal.returns-in-Some-clause-next
returns-in-Some-clause-next c =
    let xs = c.args.self.now.keys.items in
    let i = c.in-Some.index in
    let k = c.index.result.now in
    let row = selector_row c.args.self.now in
    let within : i < length xs = omega (arith, c.args.self.now.keys.ok.0, c.in-Some.ensures.there) in
    let serial = ap (λ (r : KeyRow). r.stage.serial) (places_at key_row no_key xs i k within c.index.ensures) in
    let named : ◌≡◌ {A = KeyId} (record { index = i; serial = k.serial + 1 })
    (record { index = i; serial = suc (row.keys i).stage.serial }) = λ j. record {
      index = i;
      serial = (add-one k.serial ∙ ap suc (sym serial)) j;
    } in
    ap (λ (m : KeyId). Some m) named ∙ ap (next_by_row c.args.limit row) c.in-Some.ensures.least
