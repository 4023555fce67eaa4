-- How the looked list is kept, after a change.
use Rattle.std.proofs.Common.{◌≡◌, ℕ, zero, suc, Bool, true, false, ◌+◌, ◌*◌, ◌^◌, ◌<◌, ◌≤◌, Option, None, List, [], ◌∷◌, ◌++◌, length, get_or, set, refl, ap}
use Rattle.std.proofs.Common.{sym, ◌∙◌, arith}
use Rattle.std.specs.Prelude.{replicate, nat_lt}
use Rattle.std.proofs.lemmas.Bool.{ltb-true, ltb-false}
use Rattle.std.proofs.lemmas.List.{get_or_default, length-set, length-append}
use Rattle.nio_steps.specs.declared.looked.LookedKey.{LookedKey}
use Rattle.nio_select.specs.Asked.{Looked, IsKept}
use Rattle.nio_select.specs.Kept.{keys_with, one_if_some, IsLonger}
use Rattle.nio_select.specs.KeyKept.{keys_from}
use Rattle.nio_select.specs.declared.noted.Noted.{Noted}
use Rattle.nio_select.specs.declared.slot.Slot.{Slot}
use Rattle.nio_select.specs.declared.stamp.Stamp.{Stamp}
use Rattle.nio_select.proofs.KeptKeys.{first_set, keys_count, keys_few, keys_longer}

module _ (slots : List (Option Slot)) (noted : Noted) (count i : ℕ) (was o : Option Slot) where
  counts : IsKept slots noted count → i < length slots → was ≡ get_or slots i was
      → length (keys_from 0 (set slots i o)) + one_if_some was ≡ count + one_if_some o
  counts kept within is =
      let same : was ≡ get_or slots i None = is ∙ get_or_default slots i was None within in
      ap (λ (x : Option Slot). length (keys_from 0 (set slots i o)) + one_if_some x) same
      ∙ (keys_count 0 i slots o within ∙ ap (λ n. n + one_if_some o) (sym kept.counted))

  pub kept_set : (now : ℕ) → IsKept slots noted count → i < length slots → was ≡ get_or slots i was
      → now + one_if_some was ≡ count + one_if_some o → IsKept (set slots i o) noted now
  kept_set now kept within is counted =
      let long : length (set slots i o) ≡ length slots = length-set slots i o in
      record {
        counted = omega (arith, counted, counts kept within is);
        told_room = omega (arith, kept.told_room, long);
        noted_room = omega (arith, kept.noted_room, long);
        few = kept.few;
        untold = kept.untold;
        unnoted = kept.unnoted;
      }

  -- a key that stands there was counted
  pub counted_there : IsKept slots noted count → i < length slots → was ≡ get_or slots i was
      → one_if_some was ≤ count + one_if_some o
  counted_there kept within is = omega (arith, counts kept within is)

  pub count_fits : IsKept slots noted count → count + 1 < 2 ^ 64
  count_fits kept =
      omega (arith, kept.counted, keys_few 0 slots, kept.noted_room, kept.few)

abbrev looked_as : List LookedKey → ℕ → List ℕ → ℕ → Option Stamp → Looked
looked_as keys bound changed room stamp =
    record { keys = keys; bound = bound; changed = changed; room = room; stamp = stamp }

pub looked_set : (slots : List (Option Slot)) (i : ℕ) (o : Option Slot) (changed : List ℕ) (room : ℕ) (stamp : Option Stamp)
    → i < length slots
    → looked_as (keys_from 0 (set slots i o)) (length (set slots i o)) changed room stamp
    ≡ looked_as (keys_with i o (keys_from 0 slots)) (length slots) changed room stamp
looked_set slots i o changed room stamp within =
    ap (λ (keys : List LookedKey). looked_as keys (length (set slots i o)) changed room stamp) (first_set i slots o within)
    ∙ ap (λ (bound : ℕ). looked_as (keys_with i o (keys_from 0 slots)) bound changed room stamp) (length-set slots i o)

-- ---- more room

pub longer_length : {T : Type 0} (old new : List T) (value : T) → IsLonger old new value → length old ≤ length new
longer_length old new value longer =
    omega (arith, ap length longer.is, length-append old (replicate longer.more value))

zeros : (n i : ℕ) → get_or (replicate n zero) i zero ≡ zero
zeros zero i = refl
zeros (suc n) zero = refl
zeros (suc n) (suc i) = zeros n i

more_zeros : (n : ℕ) (xs : List ℕ) → ((i : ℕ) → get_or xs i 0 ≡ 0) → (i : ℕ) → get_or (xs ++ replicate n 0) i 0 ≡ 0
more_zeros n [] none i = zeros n i
more_zeros n (x ∷ xs) none zero = none 0
more_zeros n (x ∷ xs) none (suc i) = more_zeros n xs (λ k. none (suc k)) i

pub still_zeros : (old new : List ℕ) → IsLonger old new 0 → ((i : ℕ) → get_or old i 0 ≡ 0) → (i : ℕ)
    → get_or new i 0 ≡ 0
still_zeros old new longer none i =
    ap (λ (xs : List ℕ). get_or xs i 0) longer.is ∙ more_zeros longer.more old none i

pub longer_keys : (old new : List (Option Slot)) → IsLonger old new None → keys_from 0 new ≡ keys_from 0 old
longer_keys old new longer = ap (keys_from 0) longer.is ∙ keys_longer 0 longer.more old

-- so many places more, with as much room beside them
pub kept_longer : (slots more : List (Option Slot)) (noted now : Noted) (count n : ℕ) → IsKept slots noted count
    → IsLonger slots more None → (n < length more → more ≡ slots) → IsLonger noted.told.items now.told.items 0
    → IsLonger noted.words.items now.words.items 0 → n ≤ length now.told.items → n ≤ 64 * length now.words.items
    → length now.words.items ≤ 2 ^ 25 → IsKept more now count
kept_longer slots more noted now count n kept longer most told words told_room words_room few = record {
  counted = kept.counted ∙ ap length (sym (longer_keys slots more longer));
  told_room = by_test (length now.told.items) (nat_lt n (length more)) refl told_room
      (omega (arith, kept.told_room, longer_length noted.told.items now.told.items 0 told));
  noted_room = by_test (64 * length now.words.items) (nat_lt n (length more)) refl words_room
      (omega (arith, kept.noted_room, longer_length noted.words.items now.words.items 0 words));
  few = few;
  untold = still_zeros noted.told.items now.told.items told kept.untold;
  unnoted = still_zeros noted.words.items now.words.items words kept.unnoted;
}
  where
    by_test : (room : ℕ) (b : Bool) → nat_lt n (length more) ≡ b → n ≤ room → length slots ≤ room → length more ≤ room
    by_test room true is low before = omega (arith, before, ap length (most (ltb-true n (length more) is)))
    by_test room false is low before = omega (arith, low, ltb-false n (length more) is)

-- ---- no place

none_there : (xs : List ℕ) → length xs ≡ 0 → (i : ℕ) → get_or xs i zero ≡ zero
none_there [] none i = refl
none_there (x ∷ xs) none i = absurd (omega (arith, none))

pub kept_none : (slots : List (Option Slot)) (noted : Noted) → slots ≡ [] → length noted.told.items ≡ 0
    → length noted.words.items ≡ 0 → IsKept slots noted 0
unfolding keys_from
kept_none slots noted none told words = record {
  counted = ap (λ xs. length (keys_from 0 xs)) (sym none);
  told_room = omega (arith, ap length none);
  noted_room = omega (arith, ap length none);
  few = omega (arith, words);
  untold = none_there noted.told.items told;
  unnoted = none_there noted.words.items words;
}

pub keys_none : (slots : List (Option Slot)) → slots ≡ [] → keys_from 0 slots ≡ []
unfolding keys_from
keys_none slots none = ap (keys_from 0) none
