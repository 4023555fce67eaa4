use Rattle.std.proofs.Common.{◌≡◌, ◌<◌, ◌≤◌, ℕ, List, get_or, bit_and, count_by, refl, sym, ap, subst, ◌∙◌, length}
use Rattle.std.proofs.Common.{arith}
use Rattle.std.proofs.lemmas.List.{get_or_default}
use Rattle.std.specs.List.{All}
use Rattle.nio_base.specs.declared.numbers.KeyId.{KeyId}
use Rattle.nio_language.specs.declared.reply.Reply.TheVariants as reply
use Rattle.nio_plain.proofs.Replying.{unchanged_as, selector_made-below, selector_made-past}
use Rattle.nio_plain.proofs.Marking.{tells-looked}
use Rattle.nio_plain.proofs.Places.{places_at}
use Rattle.nio_plain.proofs.Telling.{told-no_selector, told-own, own-none, own-others, some_at}
use Rattle.nio_plain.proofs.TellingAt.{answers-again, answers-told}
use Rattle.nio_plain.specs.PlainState.{places, state_of, selector_row, no_selector, key_row, no_key}
use Rattle.nio_plain.specs.PlainState.{with_selection_ended}
use Rattle.nio_plain.specs.Seq.Selections.{all_told, is_updated}
use Rattle.nio_plain.specs.declared.plain.selector.Selector.{Selector}
use Rattle.nio_plain.proofs.plain.Plain.told.Goals as goal

pub returns-then-sel-len : goal.returns-then-sel-len
returns-then-sel-len c =
    let p = c.args.self.now in
    let past : length p.selectors.items ≤ c.args.sel.0 = omega (arith, p.selectors.ok.0) in
    unchanged_as p reply.NoSelector _
    (told-no_selector p.rules (state_of p) c.args.me c.args.sel c.args.elapsed c.args.pairs.now
    (selector_made-past p.selectors.items c.args.sel.0 past))

pub returns-in_default : goal.returns-in_default
returns-in_default c =
    let p = c.args.self.now in
    let s = c.args.sel.0 in
    let x = c.index-selector.result.now in
    let within : s < length p.selectors.items = omega (arith, p.selectors.ok.0) in
    let at = places_at selector_row no_selector p.selectors.items s x within c.index-selector.ensures in
    unchanged_as p reply.NotSelecting _
    (told-own p.rules (state_of p) c.args.me c.args.sel c.args.elapsed c.args.pairs.now _
    (selector_made-below p.selectors.items s within)
    (own-none p c.args.me s x at c.in_default.is))

pub returns-then-selecting-me : goal.returns-then-selecting-me
returns-then-selecting-me c =
    let p = c.args.self.now in
    let s = c.args.sel.0 in
    let x = c.index-selector.result.now in
    let within : s < length p.selectors.items = omega (arith, p.selectors.ok.0) in
    let at = places_at selector_row no_selector p.selectors.items s x within c.index-selector.ensures in
    unchanged_as p reply.NotSelecting _
    (told-own p.rules (state_of p) c.args.me c.args.sel c.args.elapsed c.args.pairs.now _
    (selector_made-below p.selectors.items s within)
    (own-others p c.args.me s x at c.in-Some.selecting c.in-Some.is c.if-selecting-me.true))

pub returns-then-is_again : goal.returns-then-is_again
returns-then-is_again c =
    let p = c.args.self.now in
    let s = c.args.sel.0 in
    let x = c.index-selector.result.now in
    let y = c.in-Some.selecting in
    let pairs = c.args.pairs.now in
    let within : s < length p.selectors.items = omega (arith, p.selectors.ok.0) in
    let serials = c.in_ok-serials.serials.items in
    let told = c.in_ok-told.told.items in
    let long : length serials ≡ y.bound = omega (arith, c.in_ok-serials.serials.ok.0, c.in_ok-serials.ensures.long) in
    let looked_is = c.deref.ensures.value in
    let serials_is = c.deref-2.ensures.value in
    let named = subst (λ (xs : List (KeyId × ℕ)). All (λ (q : KeyId × ℕ). get_or serials q.0.index 0 ≡ q.0.serial) xs)
    looked_is c.in_ok-serials.ensures.serials in
    let told_is : (i : ℕ) → i < length serials
    → get_or told i 0 ≡ all_told pairs (record { index = i; serial = get_or serials i 0 }) = λ i l.
    c.in_ok-told.ensures.told i (subst (λ (ys : List ℕ). i < length ys) (sym serials_is) l)
    ∙ (λ j. all_told (c.as_slice.ensures j) (record { index = i; serial = get_or (serials_is j) i 0 })) in
    let tells = tells-looked y.looked.items pairs y.bound serials told y.below_bound long named told_is in
    let keys = c.deref-3.ensures.value in
    let looked = c.deref-4.ensures.value in
    let told' = c.deref-5.ensures.value in
    let counted = c.updated_count-count.ensures
    ∙ (λ j. count_by
    (λ (q : KeyId × ℕ). is_updated (places key_row no_key (keys j) q.0.index).mark
    (bit_and (get_or (told' j) q.0.index 0) q.1)) (looked j)) in
    answers-again p c.args.me c.args.sel c.args.elapsed pairs x y within c.index-selector.ensures c.in-Some.is
    c.if-selecting-me.false (λ i. get_or told i 0) tells c.updated_count-count.result counted c.gate-gate.result
    c.gate-gate.ensures c.is_interrupted-interrupted.result c.is_interrupted-interrupted.ensures
    (sym c.if-is_again.ensures)

pub returns : goal.returns
returns c =
    let p = c.args.self.now in
    let s = c.args.sel.0 in
    let x = c.index-selector.result.now in
    let y = c.in-Some.selecting in
    let pairs = c.args.pairs.now in
    let within : s < length p.selectors.items = omega (arith, p.selectors.ok.0) in
    let serials = c.in_ok-serials.serials.items in
    let told = c.in_ok-told.told.items in
    let long : length serials ≡ y.bound = omega (arith, c.in_ok-serials.serials.ok.0, c.in_ok-serials.ensures.long) in
    let looked_is = c.deref.ensures.value in
    let serials_is = c.deref-2.ensures.value in
    let named = subst (λ (xs : List (KeyId × ℕ)). All (λ (q : KeyId × ℕ). get_or serials q.0.index 0 ≡ q.0.serial) xs)
    looked_is c.in_ok-serials.ensures.serials in
    let told_is : (i : ℕ) → i < length serials
    → get_or told i 0 ≡ all_told pairs (record { index = i; serial = get_or serials i 0 }) = λ i l.
    c.in_ok-told.ensures.told i (subst (λ (ys : List ℕ). i < length ys) (sym serials_is) l)
    ∙ (λ j. all_told (c.as_slice.ensures j) (record { index = i; serial = get_or (serials_is j) i 0 })) in
    let tells = tells-looked y.looked.items pairs y.bound serials told y.below_bound long named told_is in
    let keys = c.deref-3.ensures.value in
    let looked = c.deref-4.ensures.value in
    let told' = c.deref-5.ensures.value in
    let counted = c.updated_count-count.ensures
    ∙ (λ j. count_by
    (λ (q : KeyId × ℕ). is_updated (places key_row no_key (keys j) q.0.index).mark
    (bit_and (get_or (told' j) q.0.index 0) q.1)) (looked j)) in
    let w = c.index_mut.result.now in
    let one : w ≡ x = (c.index_mut.ensures.value ∙ get_or_default p.selectors.items s w x within)
    ∙ sym c.index-selector.ensures in
    let some = ap (λ (z : Selector). z.selecting) one ∙ c.in-Some.is in
    let ended = some_at _ _ _ some c.end_selection.ensures in
    answers-told p c.args.me c.args.sel c.args.elapsed pairs x y within c.index-selector.ensures c.in-Some.is
    c.if-selecting-me.false (λ i. get_or told i 0) tells c.updated_count-count.result counted c.gate-gate.result
    c.gate-gate.ensures c.is_interrupted-interrupted.result c.is_interrupted-interrupted.ensures _
    c.end_selection.new.self c.why_ended.result (sym c.if-is_again.ensures) c.why_ended.ensures
    (ended ∙ (λ j. with_selection_ended p.rules (selector_row (one j)) y.looked.items
    (λ i. get_or (c.deref-6.ensures.value j) i 0))) refl (record { limits = refl; rules = refl })
