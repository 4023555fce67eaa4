-- What an array has, once changes were written to it.
use Rattle.std.proofs.Common.{◌≡◌, ℕ, ◌+◌, ◌-◌, ◌^◌, ◌≤◌, Bool, if◌then◌else◌, List, [], ◌∷◌, ◌++◌, length, map, take, drop}
use Rattle.std.proofs.Common.{refl, ap, sym, ◌∙◌, append_assoc, length-append, arith}
use Rattle.std.specs.Prelude.{fold, min, slice_set}
use Rattle.std.proofs.Math.Seq.{set-append_seam, take-nil}
use Rattle.std.proofs.lemmas.Bool.{le-ltb, lt-ltb}
use Rattle.nio_select.specs.declared.changes.KeyChange.{KeyChange}
use Rattle.nio_c.specs.Values.{as_changed}
use Rattle.nio_c.specs.Writing.{counted_on, one_more, written, written_on}
use Rattle.nio_c.specs.declared.values.Changed.{Changed}
use Rattle.nio_c.specs.declared.writing.Writing.{Writing}

-- ---- what was written

pub same_array : (w : Writing) (changes : List KeyChange) → (fold written w changes).into.ghost_name ≡ w.into.ghost_name
same_array w [] = refl
same_array w (change ∷ later) = same_array (written w change) later

pub all_written : (w : Writing) (changes : List KeyChange)
    → (fold written w changes).into.now ≡ written_on w.into.now w.count changes
all_written w [] = refl
all_written w (change ∷ later) = all_written (written w change) later

pub all_counted : (w : Writing) (changes : List KeyChange) → (fold written w changes).count ≡ counted_on w.count changes
all_counted w [] = refl
all_counted w (change ∷ later) = all_counted (written w change) later

-- ---- from the front of an array

-- nothing where there is no room
written_full : (into : List Changed) (count : ℕ) (changes : List KeyChange) → length into ≤ count
    → length into ≤ 2 ^ 64 - 1 → written_on into count changes ≡ into
written_full into count [] full few = refl
written_full into count (change ∷ later) full few =
    ap (λ (b : Bool). written_on (if b then slice_set into count (as_changed change) else into) (one_more count) later)
    (le-ltb count (length into) full)
    ∙ written_full into (one_more count) later (omega (arith, full, few)) few

written_from : (front rest : List Changed) (changes : List KeyChange) → length (front ++ rest) ≤ 2 ^ 64 - 1
    → written_on (front ++ rest) (length front) changes
    ≡ front ++ (map as_changed (take (length rest) changes) ++ drop (length changes) rest)
written_from front rest [] few =
    ap (λ (xs : List KeyChange). front ++ (map as_changed xs ++ rest)) (sym (take-nil (length rest)))
written_from front [] (change ∷ later) few =
    written_full (front ++ []) (length front) (change ∷ later)
    (omega (arith, length-append {A = Changed} front [])) few
written_from front (r ∷ rest) (change ∷ later) few =
    let x : Changed = as_changed change in
    let long = length-append front (r ∷ rest) in
    let longer = length-append front (x ∷ []) in
    let next : one_more (length front) ≡ length (front ++ x ∷ []) = omega (arith, few, long, longer) in
    let same : (front ++ x ∷ []) ++ rest ≡ front ++ x ∷ rest = append_assoc front (x ∷ []) rest in
    let all = length-append front (x ∷ rest) in
    ap (λ (b : Bool). written_on (if b then slice_set (front ++ r ∷ rest) (length front) x else front ++ r ∷ rest)
    (one_more (length front)) later)
    (lt-ltb (length front) (length (front ++ r ∷ rest)) (omega (arith, long)))
    ∙ (ap (λ (xs : List Changed). written_on xs (one_more (length front)) later)
    (set-append_seam front r rest x ∙ sym same)
    ∙ (ap (λ (n : ℕ). written_on ((front ++ x ∷ []) ++ rest) n later) next
    ∙ (written_from (front ++ x ∷ []) rest later
    (omega (arith, few, long, all, ap length same))
    ∙ append_assoc front (x ∷ []) (map as_changed (take (length rest) later) ++ drop (length later) rest))))

pub written_first : (into : List Changed) (changes : List KeyChange) → length into ≤ 2 ^ 64 - 1
    → written_on into 0 changes ≡ map as_changed (take (length into) changes) ++ drop (length changes) into
written_first into changes few = written_from [] into changes few

-- ---- the count

counted_from : (count : ℕ) (changes : List KeyChange) → count ≤ 2 ^ 64 - 1
    → counted_on count changes ≡ min (count + length changes) (2 ^ 64 - 1)
counted_from count [] few = omega (arith, few)
counted_from count (change ∷ later) few =
    counted_from (one_more count) later (omega arith) ∙ omega (arith, few)

pub counted_first : (changes : List KeyChange) → counted_on 0 changes ≡ min (length changes) (2 ^ 64 - 1)
counted_first changes =
    let all : 0 + length changes ≡ length changes = omega arith in
    counted_from 0 changes (omega arith) ∙ ap (λ (n : ℕ). min n (2 ^ 64 - 1)) all

-- where none is counted there is none
pub counted_none : (changes : List KeyChange) → counted_on 0 changes ≡ 0 → changes ≡ []
counted_none [] none = refl
counted_none (change ∷ later) none =
    let all = counted_first (change ∷ later) in
    absurd (omega (arith, all, none))
