-- Different parts have different places, and each place is one of the table's words.
use Rattle.std.proofs.Common.{◌≡◌, ◌≢◌, ℕ, zero, suc, ◌+◌, ◌<◌, List, [], ◌∷◌, take, get_or, refl, ap, arith}
use Rattle.std.proofs.lemmas.Nat.{mul-add-lt, same_from_place}
use Rattle.nio_base.specs.declared.limits.Limits.{Limits}
use Rattle.nio_words.specs.Places.{free_words, rows, row, column, IsWithin, total, word_count, place}
use Rattle.nio_words.specs.declared.part.Part.{Part}
use Rattle.nio_words.specs.declared.part.Part.TheVariants.{Callers, Interrupts, Selectors, ChannelsHigh, Chan, Hold}
use Rattle.nio_words.specs.declared.part.Part.TheVariants.{Enrolled, Gate, Turn, KeysHigh, Key, Interest, Mark, Note}
use Rattle.nio_words.specs.declared.part.Part.TheVariants.{Free, Touched, Lister}

-- a place behind some rows tells which rows, and where in the next one
same_row : (xs : List ℕ) (i j a b : ℕ) → a < get_or xs i 0 → b < get_or xs j 0
    → total (take i xs) + a ≡ total (take j xs) + b → (i ≡ j) × (a ≡ b)
same_row [] i j a b ha hb e = absurd (omega arith)
same_row (x ∷ xs) zero zero a b ha hb e = (refl, omega arith)
same_row (x ∷ xs) zero (suc j) a b ha hb e = absurd (omega arith)
same_row (x ∷ xs) (suc i) zero a b ha hb e = absurd (omega arith)
same_row (x ∷ xs) (suc i) (suc j) a b ha hb e =
    let rest = same_row xs i j a b ha hb (omega arith) in (ap suc rest.0, rest.1)

inside_rows : (xs : List ℕ) (i a : ℕ) → a < get_or xs i 0 → total (take i xs) + a < total xs
inside_rows [] i a h = absurd (omega arith)
inside_rows (x ∷ xs) zero a h = omega arith
inside_rows (x ∷ xs) (suc i) a h = let rest = inside_rows xs i a h in omega arith

-- a part's column is within its row
column_below : (l : Limits) (p : Part) → IsWithin l p → column l p < get_or (rows l) (row p) 0
column_below l Callers h = omega arith
column_below l Interrupts h = omega arith
column_below l Selectors h = omega arith
column_below l ChannelsHigh h = omega arith
column_below l (Chan c) h = h
column_below l (Hold c) h = h
column_below l (Enrolled c s) h = omega (arith, mul-add-lt c l.selectors s l.channels h.0 h.1)
column_below l (Gate s) h = h
column_below l (Turn s) h = h
column_below l (KeysHigh s) h = h
column_below l (Key s i) h = omega (arith, mul-add-lt s l.keys i l.selectors h.0 h.1)
column_below l (Interest s i) h = omega (arith, mul-add-lt s l.keys i l.selectors h.0 h.1)
column_below l (Mark s i) h = omega (arith, mul-add-lt s l.keys i l.selectors h.0 h.1)
column_below l (Note s i) h = omega (arith, mul-add-lt s l.keys i l.selectors h.0 h.1)
column_below l (Free s j) h = omega (arith, mul-add-lt s (free_words l) j l.selectors h.0 h.1)
column_below l (Touched s j) h = omega (arith, mul-add-lt s (free_words l) j l.selectors h.0 h.1)
column_below l (Lister s) h = h

pub place_inside : (l : Limits) (p : Part) → IsWithin l p → place l p < word_count l
place_inside l p h = inside_rows (rows l) (row p) (column l p) (column_below l p h)

-- a row and a column tell the part
same_numbers : (l : Limits) (p q : Part) → IsWithin l p → IsWithin l q → row p ≡ row q → column l p ≡ column l q → p ≡ q
same_numbers l Callers Callers hp hq r c = refl
same_numbers l Interrupts Interrupts hp hq r c = refl
same_numbers l Selectors Selectors hp hq r c = refl
same_numbers l ChannelsHigh ChannelsHigh hp hq r c = refl
same_numbers l (Chan a) (Chan b) hp hq r c = ap Chan c
same_numbers l (Hold a) (Hold b) hp hq r c = ap Hold c
same_numbers l (Enrolled a s) (Enrolled b t) hp hq r c = let both =
    same_from_place a s b t l.selectors hp.1 hq.1 c in cc
same_numbers l (Gate a) (Gate b) hp hq r c = ap Gate c
same_numbers l (Turn a) (Turn b) hp hq r c = ap Turn c
same_numbers l (KeysHigh a) (KeysHigh b) hp hq r c = ap KeysHigh c
same_numbers l (Key a i) (Key b j) hp hq r c = let both = same_from_place a i b j l.keys hp.1 hq.1 c in cc
same_numbers l (Interest a i) (Interest b j) hp hq r c = let both = same_from_place a i b j l.keys hp.1 hq.1 c in cc
same_numbers l (Mark a i) (Mark b j) hp hq r c = let both = same_from_place a i b j l.keys hp.1 hq.1 c in cc
same_numbers l (Note a i) (Note b j) hp hq r c = let both = same_from_place a i b j l.keys hp.1 hq.1 c in cc
same_numbers l (Free a i) (Free b j) hp hq r c = let both = same_from_place a i b j (free_words l) hp.1 hq.1 c in cc
same_numbers l (Touched a i) (Touched b j) hp hq r c =
    let both = same_from_place a i b j (free_words l) hp.1 hq.1 c in cc
same_numbers l (Lister a) (Lister b) hp hq r c = ap Lister c
same_numbers l p q hp hq r c = absurd (omega (arith, r))

pub same_part : (l : Limits) (p q : Part) → IsWithin l p → IsWithin l q → place l p ≡ place l q → p ≡ q
same_part l p q hp hq e =
    let both = same_row (rows l) (row p) (row q) (column l p) (column l q) (column_below l p hp)
    (column_below l q hq) e in
    same_numbers l p q hp hq both.0 both.1

not_limits : (p : Part) → row p ≢ 1
not_limits Callers e = omega arith
not_limits p e = omega arith

-- no part stands in the word of the limits
pub place-limits : (l : Limits) (p : Part) → IsWithin l p → place l p ≢ 1
place-limits l p h e =
    not_limits p (same_row (rows l) (row p) 1 (column l p) 0 (column_below l p h) (omega arith) e).0

pub limits_inside : (l : Limits) → 1 < word_count l
limits_inside l = inside_rows (rows l) 1 0 (omega arith)
