-- The looked list by its places.
use Rattle.std.proofs.Common.{◌≡◌, ℕ, zero, suc, ◌+◌, ◌<◌, ◌≤◌, ◌==◌, Bool, false, not, if◌then◌else◌, Option, Some, None}
use Rattle.std.proofs.Common.{List, [], ◌∷◌, ◌++◌, length, map, get_or, set, refl, ap, sym, ◌∙◌, subst, eq-eqb, ne_eqb, arith}
use Rattle.std.specs.Prelude.{option_map, option_to_list, replicate}
use Rattle.std.specs.List.{All}
use Rattle.std.proofs.lemmas.Bool.{lt-ltb, le-ltb}
use Rattle.std.proofs.lemmas.List.{length-map}
use Rattle.std.proofs.lemmas.List.Elements.{All-nil, All-cons, All-head, All-tail, All-weaker}
use Rattle.nio_base.specs.declared.numbers.ChanNo.{ChanNo}
use Rattle.nio_history.specs.Lists.{ListEntry}
use Rattle.nio_steps.proofs.Lists.{pairs-none, pairs-one, pairs-append}
use Rattle.nio_steps.proofs.Relisted.{relisted, none_listed, listed_from}
use Rattle.nio_steps.specs.Lists.{listed_at}
use Rattle.nio_steps.specs.Looking.{enlisted, without_index}
use Rattle.nio_steps.specs.declared.looked.LookedKey.{LookedKey}
use Rattle.nio_select.specs.Asked.{IsRising, key_with, keys_to, renumbered_key}
use Rattle.nio_select.specs.KeyKept.{keys_from, key_kept}
use Rattle.nio_select.specs.Kept.{entry_kept, kept, keys_with, one_if_some, renumbered_slot}
use Rattle.nio_select.specs.declared.slot.Slot.{Slot}

-- ---- where the keys are

pub keys_above : (base : ℕ) (slots : List (Option Slot)) → All (λ e. base ≤ e.index) (keys_from base slots)
unfolding keys_from
keys_above base [] = All-nil (λ e. base ≤ e.index)
keys_above base (None ∷ slots) =
    All-weaker (λ e. base + 1 ≤ e.index) (λ e. base ≤ e.index) (λ e above. omega arith) (keys_from (base + 1) slots)
    (keys_above (base + 1) slots)
keys_above base (Some slot ∷ slots) =
    All-cons (λ e. base ≤ e.index) (key_kept base slot) (keys_from (base + 1) slots) (omega arith)
    (All-weaker (λ e. base + 1 ≤ e.index) (λ e. base ≤ e.index) (λ e above. omega arith) (keys_from (base + 1) slots)
    (keys_above (base + 1) slots))

pub keys_rise : (base : ℕ) (slots : List (Option Slot)) → IsRising (keys_from base slots)
unfolding keys_from
keys_rise base [] = pairs-none (λ x y. x.index < y.index)
keys_rise base (None ∷ slots) = keys_rise (base + 1) slots
keys_rise base (Some slot ∷ slots) =
    pairs-append (λ x y. x.index < y.index) (key_kept base slot ∷ []) (keys_from (base + 1) slots)
    (pairs-one (λ x y. x.index < y.index) (key_kept base slot)) (keys_rise (base + 1) slots)
    (All-cons (λ e. All (λ y. e.index < y.index) (keys_from (base + 1) slots)) (key_kept base slot) []
    (All-weaker (λ e. base + 1 ≤ e.index) (λ e. base < e.index) (λ e above. omega arith) (keys_from (base + 1) slots)
    (keys_above (base + 1) slots))
    (All-nil (λ e. All (λ y. e.index < y.index) (keys_from (base + 1) slots))))

pub keys_below : (base : ℕ) (slots : List (Option Slot))
    → All (λ e. e.index < base + length slots) (keys_from base slots)
unfolding keys_from
keys_below base [] = All-nil (λ e. e.index < base + 0)
keys_below base (None ∷ slots) =
    All-weaker (λ e. e.index < base + 1 + length slots) (λ e. e.index < base + suc (length slots))
    (λ e below. omega arith) (keys_from (base + 1) slots) (keys_below (base + 1) slots)
keys_below base (Some slot ∷ slots) =
    All-cons (λ e. e.index < base + suc (length slots)) (key_kept base slot) (keys_from (base + 1) slots) (omega arith)
    (All-weaker (λ e. e.index < base + 1 + length slots) (λ e. e.index < base + suc (length slots))
    (λ e below. omega arith) (keys_from (base + 1) slots) (keys_below (base + 1) slots))

-- ---- what the list has of an index

have_not : (i : ℕ) (keys : List LookedKey) → All (λ e. i + 1 ≤ e.index) keys → All (λ e. (e.index == i) ≡ false) keys
have_not i keys above =
    All-weaker (λ e. i + 1 ≤ e.index) (λ e. (e.index == i) ≡ false)
    (λ e over. ne_eqb e.index i (λ same. omega (arith, over, same))) keys above

pub kept_listed : (base k : ℕ) (slots : List (Option Slot))
    → listed_at (keys_from base slots) (base + k) ≡ option_map entry_kept (get_or slots k None)
unfolding keys_from
kept_listed base k [] = refl
kept_listed base zero (None ∷ slots) =
    let at : base + 0 ≡ base = omega arith in
    ap (λ (n : ℕ). listed_at (keys_from (base + 1) slots) n) at
    ∙ none_listed base None (keys_from (base + 1) slots)
    (have_not base (keys_from (base + 1) slots) (keys_above (base + 1) slots))
kept_listed base zero (Some slot ∷ slots) =
    let at : base + 0 ≡ base = omega arith in
    ap (λ (n : ℕ). listed_at (key_kept base slot ∷ keys_from (base + 1) slots) n) at
    ∙ (ap (λ (b : Bool). fold_on (if b then Some (entry_kept slot) else None)) (eq-eqb base base refl)
    ∙ none_listed base (Some (entry_kept slot)) (keys_from (base + 1) slots)
    (have_not base (keys_from (base + 1) slots) (keys_above (base + 1) slots)))
  where
    fold_on : Option ListEntry → Option ListEntry
    fold_on found = listed_from base found (keys_from (base + 1) slots)
kept_listed base (suc k) (None ∷ slots) =
    let at : base + suc k ≡ base + 1 + k = omega arith in
    ap (λ (n : ℕ). listed_at (keys_from (base + 1) slots) n) at ∙ kept_listed (base + 1) k slots
kept_listed base (suc k) (Some slot ∷ slots) =
    let at : base + suc k ≡ base + 1 + k = omega arith in
    ap (λ (b : Bool). listed_from (base + suc k) (if b then Some (entry_kept slot) else None) (keys_from (base + 1) slots))
    (ne_eqb base (base + suc k) (λ same. omega (arith, same)))
    ∙ (ap (λ (n : ℕ). listed_at (keys_from (base + 1) slots) n) at ∙ kept_listed (base + 1) k slots)

-- ---- another key at a place

module _ (n : ℕ) (now : Option LookedKey) where
  relisted_without : (xs ys : List LookedKey) → without_index n xs ≡ without_index n ys
      → relisted n now xs ≡ relisted n now ys
  relisted_without xs ys same = by_now now
    where
      by_now : (o : Option LookedKey) → relisted n o xs ≡ relisted n o ys
      by_now None = same
      by_now (Some e) = ap (enlisted e) same

  -- the key that stood there goes
  relisted_here : (k : LookedKey) (later : List LookedKey) → k.index ≡ n
      → relisted n now (k ∷ later) ≡ relisted n now later
  relisted_here k later here =
      relisted_without (k ∷ later) later
      (ap (λ (b : Bool). if not b then k ∷ without_index n later else without_index n later) (eq-eqb k.index n here))

without_below : (n : ℕ) (k : LookedKey) (later : List LookedKey) → k.index < n
    → without_index n (k ∷ later) ≡ k ∷ without_index n later
without_below n k later below =
    ap (λ (b : Bool). if not b then k ∷ without_index n later else without_index n later)
    (ne_eqb k.index n (λ same. omega (arith, below, same)))

without_above : (n : ℕ) (keys : List LookedKey) → All (λ e. n + 1 ≤ e.index) keys → without_index n keys ≡ keys
without_above n [] above = refl
without_above n (k ∷ later) above =
    ap (λ (b : Bool). if not b then k ∷ without_index n later else without_index n later)
    (ne_eqb k.index n (λ same. omega (arith, All-head (λ e. n + 1 ≤ e.index) k later above, same)))
    ∙ ap (λ xs. k ∷ xs) (without_above n later (All-tail (λ e. n + 1 ≤ e.index) k later above))

-- a key below goes before it
relisted_below : (n : ℕ) (o : Option Slot) (k : LookedKey) (later : List LookedKey) → k.index < n
    → relisted n (kept n o) (k ∷ later) ≡ k ∷ relisted n (kept n o) later
unfolding enlisted
relisted_below n None k later below = without_below n k later below
relisted_below n (Some slot) k later below =
    ap (enlisted (key_kept n slot)) (without_below n k later below)
    ∙ ap (λ (b : Bool). if b then k ∷ enlisted (key_kept n slot) (without_index n later)
    else key_kept n slot ∷ k ∷ without_index n later) (lt-ltb k.index n below)

enlisted_first : (e : LookedKey) (keys : List LookedKey) → All (λ x. e.index + 1 ≤ x.index) keys
    → enlisted e keys ≡ e ∷ keys
unfolding enlisted
enlisted_first e [] above = refl
enlisted_first e (k ∷ later) above =
    ap (λ (b : Bool). if b then k ∷ enlisted e later else e ∷ k ∷ later)
    (le-ltb k.index e.index (omega (arith, All-head (λ x. e.index + 1 ≤ x.index) k later above)))

-- before keys that are all above it stands the key of a place, where it has one
abbrev put_before : ℕ → Option Slot → List LookedKey → List LookedKey
put_before n None later = later
put_before n (Some slot) later = key_kept n slot ∷ later

relisted_above : (n : ℕ) (o : Option Slot) (keys : List LookedKey) → All (λ e. n + 1 ≤ e.index) keys
    → relisted n (kept n o) keys ≡ put_before n o keys
relisted_above n None keys above = without_above n keys above
relisted_above n (Some slot) keys above =
    ap (enlisted (key_kept n slot)) (without_above n keys above) ∙ enlisted_first (key_kept n slot) keys above

keys_put : (base : ℕ) (o : Option Slot) (slots : List (Option Slot))
    → keys_from base (o ∷ slots) ≡ put_before base o (keys_from (base + 1) slots)
unfolding keys_from
keys_put base None slots = refl
keys_put base (Some slot) slots = refl

at_first : (base : ℕ) (was o : Option Slot) (slots : List (Option Slot))
    → relisted base (kept base o) (keys_from base (was ∷ slots)) ≡ keys_from base (o ∷ slots)
unfolding keys_from
at_first base None o slots =
    relisted_above base o (keys_from (base + 1) slots) (keys_above (base + 1) slots) ∙ sym (keys_put base o slots)
at_first base (Some slot) o slots =
    relisted_here base (kept base o) (key_kept base slot) (keys_from (base + 1) slots) refl
    ∙ (relisted_above base o (keys_from (base + 1) slots) (keys_above (base + 1) slots) ∙ sym (keys_put base o slots))

pub keys_set : (base i : ℕ) (slots : List (Option Slot)) (o : Option Slot) → i < length slots
    → keys_from base (set slots i o) ≡ relisted (base + i) (kept (base + i) o) (keys_from base slots)
unfolding keys_from
keys_set base i [] o within = absurd (omega (arith, within))
keys_set base zero (was ∷ slots) o within =
    let at : base ≡ base + 0 = omega arith in
    subst (λ (n : ℕ). keys_from base (o ∷ slots) ≡ relisted n (kept n o) (keys_from base (was ∷ slots))) at
    (sym (at_first base was o slots))
keys_set base (suc i) (None ∷ slots) o within =
    let at : base + 1 + i ≡ base + suc i = omega arith in
    subst (λ (n : ℕ). keys_from (base + 1) (set slots i o) ≡ relisted n (kept n o) (keys_from (base + 1) slots)) at
    (keys_set (base + 1) i slots o (omega (arith, within)))
keys_set base (suc i) (Some slot ∷ slots) o within =
    let at : base + 1 + i ≡ base + suc i = omega arith in
    ap (λ xs. key_kept base slot ∷ xs)
    (subst (λ (n : ℕ). keys_from (base + 1) (set slots i o) ≡ relisted n (kept n o) (keys_from (base + 1) slots)) at
    (keys_set (base + 1) i slots o (omega (arith, within))))
    ∙ sym (relisted_below (base + suc i) o (key_kept base slot) (keys_from (base + 1) slots) (omega arith))

-- ---- how many there are

keys_more : (base : ℕ) (o : Option Slot) (slots : List (Option Slot))
    → length (keys_from base (o ∷ slots)) ≡ one_if_some o + length (keys_from (base + 1) slots)
unfolding keys_from
keys_more base None slots = omega arith
keys_more base (Some slot) slots = omega arith

pub keys_count : (base i : ℕ) (slots : List (Option Slot)) (o : Option Slot) → i < length slots
    → length (keys_from base (set slots i o)) + one_if_some (get_or slots i None)
    ≡ length (keys_from base slots) + one_if_some o
keys_count base i [] o within = absurd (omega (arith, within))
keys_count base zero (was ∷ slots) o within =
    omega (arith, keys_more base was slots, keys_more base o slots)
keys_count base (suc i) (was ∷ slots) o within =
    omega (
      arith,
      keys_count (base + 1) i slots o (omega (arith, within)),
      keys_more base was slots,
      keys_more base was (set slots i o),
    )

pub keys_few : (base : ℕ) (slots : List (Option Slot)) → length (keys_from base slots) ≤ length slots
unfolding keys_from
keys_few base [] = omega arith
keys_few base (None ∷ slots) = omega (arith, keys_few (base + 1) slots)
keys_few base (Some slot ∷ slots) = omega (arith, keys_few (base + 1) slots)

-- ---- more places, and other channels

nothing_kept : (base n : ℕ) → keys_from base (replicate n None) ≡ []
unfolding keys_from
nothing_kept base zero = refl
nothing_kept base (suc n) = nothing_kept (base + 1) n

pub keys_longer : (base n : ℕ) (slots : List (Option Slot)) → keys_from base (slots ++ replicate n None) ≡ keys_from base slots
unfolding keys_from
keys_longer base n [] = nothing_kept base n
keys_longer base n (None ∷ slots) = keys_longer (base + 1) n slots
keys_longer base n (Some slot ∷ slots) = ap (λ xs. key_kept base slot ∷ xs) (keys_longer (base + 1) n slots)

pub keys_renumbered : (by : ChanNo → ChanNo) (base : ℕ) (slots : List (Option Slot))
    → keys_from base (map (renumbered_slot by) slots) ≡ map (renumbered_key by) (keys_from base slots)
unfolding keys_from
keys_renumbered by base [] = refl
keys_renumbered by base (None ∷ slots) = keys_renumbered by (base + 1) slots
keys_renumbered by base (Some slot ∷ slots) =
    ap (λ xs. renumbered_key by (key_kept base slot) ∷ xs) (keys_renumbered by (base + 1) slots)

pub count_renumbered : (by : ChanNo → ChanNo) (slots : List (Option Slot))
    → length (keys_from 0 (map (renumbered_slot by) slots)) ≡ length (keys_from 0 slots)
count_renumbered by slots = ap length (keys_renumbered by 0 slots) ∙ length-map (keys_from 0 slots) (renumbered_key by)

-- ---- from index 0 on

pub first_listed : (i : ℕ) (slots : List (Option Slot)) → listed_at (keys_from 0 slots) i ≡ option_map entry_kept (get_or slots i None)
first_listed i slots =
    let at : i ≡ 0 + i = omega arith in
    ap (λ (n : ℕ). listed_at (keys_from 0 slots) n) at ∙ kept_listed 0 i slots

relisted_with : (i : ℕ) (o : Option Slot) (keys : List LookedKey) → relisted i (kept i o) keys ≡ keys_with i o keys
relisted_with i None keys = refl
relisted_with i (Some slot) keys = refl

pub first_set : (i : ℕ) (slots : List (Option Slot)) (o : Option Slot) → i < length slots
    → keys_from 0 (set slots i o) ≡ keys_with i o (keys_from 0 slots)
first_set i slots o within =
    let at : 0 + i ≡ i = omega arith in
    keys_set 0 i slots o within
    ∙ (ap (λ (n : ℕ). relisted n (kept n o) (keys_from 0 slots)) at ∙ relisted_with i o (keys_from 0 slots))

pub first_below : (slots : List (Option Slot)) → All (λ e. e.index < length slots) (keys_from 0 slots)
first_below slots =
    All-weaker (λ e. e.index < 0 + length slots) (λ e. e.index < length slots) (λ e below. omega (arith, below))
    (keys_from 0 slots) (keys_below 0 slots)

-- ---- the keys up to an index

none_to : (n : ℕ) (keys : List LookedKey) → All (λ e. n ≤ e.index) keys → keys_to n keys ≡ []
none_to n [] above = refl
none_to n (k ∷ later) above =
    let over : n ≤ k.index = All-head (λ e. n ≤ e.index) k later above in
    ap (λ (b : Bool). if b then k ∷ keys_to n later else keys_to n later) (le-ltb k.index n over)
    ∙ none_to n later (All-tail (λ e. n ≤ e.index) k later above)

some_to : (n : ℕ) (k : LookedKey) (later : List LookedKey) → k.index < n → keys_to n (k ∷ later) ≡ k ∷ keys_to n later
some_to n k later below =
    ap (λ (b : Bool). if b then k ∷ keys_to n later else keys_to n later) (lt-ltb k.index n below)

none_at : (n m : ℕ) → n ≡ m → (keys : List LookedKey) → All (λ e. m ≤ e.index) keys → keys_to n keys ≡ []
none_at n m same keys above = ap (λ (k : ℕ). keys_to k keys) same ∙ none_to m keys above

pub keys_next : (base k : ℕ) (slots : List (Option Slot))
    → keys_to (base + k + 1) (keys_from base slots)
    ≡ keys_to (base + k) (keys_from base slots) ++ option_to_list (kept (base + k) (get_or slots k None))
unfolding keys_from
keys_next base k [] = refl
keys_next base zero (None ∷ slots) =
    let above : All (λ e. base + 1 ≤ e.index) (keys_from (base + 1) slots) = keys_above (base + 1) slots in
    let low : All (λ e. base ≤ e.index) (keys_from (base + 1) slots) = All-weaker (λ e. base + 1 ≤ e.index)
    (λ e. base ≤ e.index) (λ e over. omega (arith, over)) (keys_from (base + 1) slots) above in
    none_at (base + 0 + 1) (base + 1) (omega arith) (keys_from (base + 1) slots) above
    ∙ sym (ap (λ xs. xs ++ []) (none_at (base + 0) base (omega arith) (keys_from (base + 1) slots) low))
keys_next base zero (Some slot ∷ slots) =
    let above : All (λ e. base + 1 ≤ e.index) (keys_from (base + 1) slots) = keys_above (base + 1) slots in
    let at : base ≡ base + 0 = omega arith in
    some_to (base + 0 + 1) (key_kept base slot) (keys_from (base + 1) slots) (omega arith)
    ∙ (ap (λ xs. key_kept base slot ∷ xs)
    (none_at (base + 0 + 1) (base + 1) (omega arith) (keys_from (base + 1) slots) above)
    ∙ (ap (λ (n : ℕ). key_kept n slot ∷ []) at
    ∙ sym (ap (λ xs. xs ++ key_kept (base + 0) slot ∷ [])
    (none_at (base + 0) base (omega arith) (key_kept base slot ∷ keys_from (base + 1) slots)
    (All-cons (λ e. base ≤ e.index) (key_kept base slot) (keys_from (base + 1) slots) (omega arith)
    (All-weaker (λ e. base + 1 ≤ e.index) (λ e. base ≤ e.index) (λ e over. omega (arith, over))
    (keys_from (base + 1) slots) above))))))
keys_next base (suc k) (None ∷ slots) =
    let at : base + suc k ≡ base + 1 + k = omega arith in
    subst (λ (n : ℕ). keys_to (n + 1) (keys_from (base + 1) slots)
    ≡ keys_to n (keys_from (base + 1) slots) ++ option_to_list (kept n (get_or slots k None))) (sym at)
    (keys_next (base + 1) k slots)
keys_next base (suc k) (Some slot ∷ slots) =
    let at : base + suc k ≡ base + 1 + k = omega arith in
    let rest : keys_to (base + suc k + 1) (keys_from (base + 1) slots)
    ≡ keys_to (base + suc k) (keys_from (base + 1) slots) ++ option_to_list (kept (base + suc k) (get_or slots k None))
    = subst (λ (n : ℕ). keys_to (n + 1) (keys_from (base + 1) slots)
    ≡ keys_to n (keys_from (base + 1) slots) ++ option_to_list (kept n (get_or slots k None))) (sym at)
    (keys_next (base + 1) k slots) in
    some_to (base + suc k + 1) (key_kept base slot) (keys_from (base + 1) slots) (omega arith)
    ∙ (ap (λ xs. key_kept base slot ∷ xs) rest
    ∙ sym (ap (λ xs. xs ++ option_to_list (kept (base + suc k) (get_or slots k None)))
    (some_to (base + suc k) (key_kept base slot) (keys_from (base + 1) slots) (omega arith))))

pub first_next : (i : ℕ) (slots : List (Option Slot))
    → keys_to (i + 1) (keys_from 0 slots) ≡ keys_to i (keys_from 0 slots) ++ option_to_list (kept i (get_or slots i None))
first_next i slots =
    let at : 0 + i ≡ i = omega arith in
    subst (λ (n : ℕ). keys_to (n + 1) (keys_from 0 slots)
    ≡ keys_to n (keys_from 0 slots) ++ option_to_list (kept n (get_or slots i None))) at (keys_next 0 i slots)

-- all keys are below the number of places
pub all_to : (n : ℕ) (keys : List LookedKey) → All (λ e. e.index < n) keys → keys_to n keys ≡ keys
all_to n [] below = refl
all_to n (k ∷ later) below =
    some_to n k later (All-head (λ e. e.index < n) k later below)
    ∙ ap (λ xs. k ∷ xs) (all_to n later (All-tail (λ e. e.index < n) k later below))

-- the key that stands at a place is the one that the list has of its index
pub key_is : (i : ℕ) (o : Option Slot) → kept i o ≡ option_map (key_with i) (option_map entry_kept o)
key_is i None = refl
key_is i (Some slot) = refl
