-- Places whose channels were given other numbers.
use Rattle.std.proofs.Common.{◌≡◌, ℕ, ◌+◌, ◌<◌, ◌≤◌, Option, List, [], ◌∷◌, ◌++◌, map, take, length, get_or, ap, sym, ◌∙◌}
use Rattle.std.proofs.Common.{arith}
use Rattle.std.proofs.lemmas.List.{map-append, take_more, take_all, length-map}
use Rattle.nio_base.specs.declared.numbers.ChanNo.{ChanNo}
use Rattle.nio_select.specs.Asked.{IsKept}
use Rattle.nio_select.specs.KeyKept.{keys_from}
use Rattle.nio_select.specs.Kept.{renumbered_slot}
use Rattle.nio_select.specs.declared.noted.Noted.{Noted}
use Rattle.nio_select.specs.declared.slot.Slot.{Slot}
use Rattle.nio_select.proofs.KeptKeys.{count_renumbered}

pub one_renumbered : (by : ChanNo → ChanNo) (slots made more : List (Option Slot)) (i : ℕ) (slot new : Option Slot)
    → i < length slots → slot ≡ get_or slots i slot → new ≡ renumbered_slot by slot → more ≡ made ++ new ∷ []
    → made ≡ map (renumbered_slot by) (take i slots) → more ≡ map (renumbered_slot by) (take (i + 1) slots)
one_renumbered by slots made more i slot new below is renumbered pushed before =
    pushed
    ∙ (ap (λ xs. xs ++ new ∷ []) before
    ∙ (ap (λ (o : Option Slot). map (renumbered_slot by) (take i slots) ++ o ∷ []) renumbered
    ∙ (sym (map-append (renumbered_slot by) (take i slots) (slot ∷ []))
    ∙ ap (map (renumbered_slot by))
    (ap (λ (o : Option Slot). take i slots ++ o ∷ []) is ∙ sym (take_more slots i slot below)))))

pub all_renumbered : (by : ChanNo → ChanNo) (slots made : List (Option Slot)) (i : ℕ) → length slots ≤ i
    → made ≡ map (renumbered_slot by) (take i slots) → made ≡ map (renumbered_slot by) slots
all_renumbered by slots made i past is = is ∙ ap (map (renumbered_slot by)) (take_all i slots past)

-- the copy is kept as the list is
pub kept_renumbered : (by : ChanNo → ChanNo) (slots made : List (Option Slot)) (noted copy : Noted) (count : ℕ)
    → made ≡ map (renumbered_slot by) slots → copy.told.items ≡ noted.told.items → copy.words.items ≡ noted.words.items
    → IsKept slots noted count → IsKept made copy count
kept_renumbered by slots made noted copy count is told words kept =
    let long : length made ≡ length slots = ap length is ∙ length-map slots (renumbered_slot by) in
    record {
      counted = kept.counted ∙ sym (ap (λ xs. length (keys_from 0 xs)) is ∙ count_renumbered by slots);
      told_room = omega (arith, kept.told_room, long, ap length told);
      noted_room = omega (arith, kept.noted_room, long, ap length words);
      few = omega (arith, kept.few, ap length words);
      untold = λ i. ap (λ (xs : List ℕ). get_or xs i 0) told ∙ kept.untold i;
      unnoted = λ j. ap (λ (xs : List ℕ). get_or xs j 0) words ∙ kept.unnoted j;
    }
