use Rattle.std.proofs.Common.{ap, sym, ◌∙◌, length, is_some}
use Rattle.std.proofs.lemmas.Bool.{ltb-false}
use Rattle.nio_history.specs.Sets.{is_in_key_set}
use Rattle.nio_plain.proofs.Places.{places_at, places_past}
use Rattle.nio_plain.proofs.Rows.{key_in-gone, key_in-some}
use Rattle.nio_plain.specs.PlainState.{places, key_row, no_key, selector_row}
use Rattle.nio_plain.proofs.plain.selector.Selector.key_of.Goals as goal

pub returns-in-Some-clause-key : goal.returns-in-Some-clause-key
returns-in-Some-clause-key c =
    let keys = c.deref.result.now in
    let id = c.in_ok-id.id in
    let enrolled = sym (c.in_ok-id.ensures ∙ c.get.ensures.value) in
    let there = places_at key_row no_key keys id.index c.in-Some.key.now c.in-Some.ensures.lookup.3.0
    c.in-Some.ensures.lookup.1 in
    let at = ap (λ ks. is_in_key_set (places key_row no_key ks id.index).stage id.serial) (sym c.deref.ensures.value) in
    sym (key_in-some (selector_row c.args.self.now) c.args.chan.0 id enrolled
    ((at ∙ ap (λ k. is_in_key_set k.stage id.serial) there) ∙ sym c.if-is_in_key_set.ensures))

pub returns-in_default-clause-key : goal.returns-in_default-clause-key
returns-in_default-clause-key c =
    let keys = c.deref.result.now in
    let id = c.in_ok-id.id in
    let enrolled = sym (c.in_ok-id.ensures ∙ c.get.ensures.value) in
    let there = places_at key_row no_key keys id.index c.in-Some.key.now c.in-Some.ensures.lookup.3.0
    c.in-Some.ensures.lookup.1 in
    let at = ap (λ ks. is_in_key_set (places key_row no_key ks id.index).stage id.serial) (sym c.deref.ensures.value) in
    sym (key_in-gone (selector_row c.args.self.now) c.args.chan.0 id enrolled
    ((at ∙ ap (λ k. is_in_key_set k.stage id.serial) there) ∙ sym c.if-is_in_key_set.ensures))

pub returns-in_default-2-clause-key : goal.returns-in_default-2-clause-key
returns-in_default-2-clause-key c =
    let keys = c.deref.result.now in
    let id = c.in_ok-id.id in
    let enrolled = sym (c.in_ok-id.ensures ∙ c.get.ensures.value) in
    let past = ltb-false id.index (length keys) (sym c.get-2.ensures.lookup.0 ∙ ap is_some c.in_default.is) in
    let at = ap (λ ks. is_in_key_set (places key_row no_key ks id.index).stage id.serial) (sym c.deref.ensures.value) in
    sym (key_in-gone (selector_row c.args.self.now) c.args.chan.0 id enrolled
    (at ∙ ap (λ k. is_in_key_set k.stage id.serial) (places_past key_row no_key keys id.index past)))
