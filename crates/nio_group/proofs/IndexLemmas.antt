-- What a write to a table of entries does to the keys that it holds.
use Rattle.std.proofs.Common.{◌≡◌, ◌≢◌, ℕ, ◌+◌, ◌-◌, ◌<◌, ◌≤◌, zero, suc, Bool, true, false, cond, eqb, List, [], ◌∷◌}
use Rattle.std.proofs.Common.{Option, Some, None, is_some, count_by, get_or, set, length, replicate, refl, sym, ◌∙◌}
use Rattle.std.proofs.Common.{below_more, arith}
use Rattle.std.proofs.lemmas.List.Sums.{sum_by-cons}
use Rattle.std.proofs.lemmas.Bool.Decides.{nat_tests}
use Rattle.nio_group.specs.declared.index.Entry.{Entry}
use Rattle.nio_group.specs.Index.{has_number, key_in}

pub count_by-cons : {X : Type 0} (p : X → Bool) (x : X) (xs : List X)
    → count_by p (x ∷ xs) ≡ cond (p x) 1 0 + count_by p xs
count_by-cons p x xs = sum_by-cons (λ y. cond (p y) 1 0) x xs

pub key_in-replicate : (n k : ℕ) → key_in n (replicate k None) ≡ None
key_in-replicate n zero = refl
key_in-replicate n (suc k) = key_in-replicate n k

pub key_in-absent : (n : ℕ) (xs : List (Option Entry)) → count_by (has_number n) xs ≡ 0 → key_in n xs ≡ None
key_in-absent n [] h = refl
key_in-absent n (None ∷ xs) h = key_in-absent n xs (omega (arith, count_by-cons (has_number n) None xs))
key_in-absent n (Some e ∷ xs) h =
    let counted : cond (eqb e.number n) 1 0 + count_by (has_number n) xs ≡ 0 =
    sym (count_by-cons (has_number n) (Some e) xs) ∙ h in
    grind (arith, nat_tests, key_in-absent n xs)

pub absent-key_in : (n : ℕ) (xs : List (Option Entry)) → key_in n xs ≡ None → count_by (has_number n) xs ≡ 0
absent-key_in n [] h = refl
absent-key_in n (None ∷ xs) h = omega (arith, count_by-cons (has_number n) None xs, absent-key_in n xs h)
absent-key_in n (Some e ∷ xs) h =
    let counted : cond (eqb e.number n) (Some e.key) (key_in n xs) ≡ None = h in
    let goes_on : cond (eqb e.number n) 1 0 + count_by (has_number n) xs ≡ 0 =
    grind (arith, nat_tests, absent-key_in n xs) in
    count_by-cons (has_number n) (Some e) xs ∙ goes_on

pub key_in-set_same : (e : Entry) (xs : List (Option Entry)) (i : ℕ) → i < length xs → key_in e.number xs ≡ None
    → key_in e.number (set xs i (Some e)) ≡ Some e.key
key_in-set_same e [] i l h = absurd (omega arith)
key_in-set_same e (None ∷ xs) zero l h = grind (arith, nat_tests)
key_in-set_same e (Some o ∷ xs) zero l h = grind (arith, nat_tests)
key_in-set_same e (None ∷ xs) (suc i) l h = key_in-set_same e xs i (omega arith) h
key_in-set_same e (Some o ∷ xs) (suc i) l h = grind (arith, nat_tests, key_in-set_same e xs i)

pub key_in-set_other : (m : ℕ) (e : Entry) (xs : List (Option Entry)) (i : ℕ) → get_or xs i None ≡ None → m ≢ e.number
    → key_in m (set xs i (Some e)) ≡ key_in m xs
key_in-set_other m e [] i v h = refl
key_in-set_other m e (None ∷ xs) zero v h = grind (arith, nat_tests)
key_in-set_other m e (Some o ∷ xs) zero v h = cc
key_in-set_other m e (None ∷ xs) (suc i) v h = key_in-set_other m e xs i v h
key_in-set_other m e (Some o ∷ xs) (suc i) v h = grind (arith, nat_tests, key_in-set_other m e xs i v h)

pub key_in-set_none : (m : ℕ) (xs : List (Option Entry)) (i : ℕ) → has_number m (get_or xs i None) ≡ false
    → key_in m (set xs i None) ≡ key_in m xs
key_in-set_none m [] i h = refl
key_in-set_none m (None ∷ xs) zero h = refl
key_in-set_none m (Some o ∷ xs) zero h = grind (arith, nat_tests)
key_in-set_none m (None ∷ xs) (suc i) h = key_in-set_none m xs i h
key_in-set_none m (Some o ∷ xs) (suc i) h = grind (arith, nat_tests, key_in-set_none m xs i h)

-- a slot that has this number is counted
pub has_number-counted : (n : ℕ) (xs : List (Option Entry)) (i : ℕ) → has_number n (get_or xs i None) ≡ true
    → 1 ≤ count_by (has_number n) xs
has_number-counted n [] i h = cc
has_number-counted n (x ∷ xs) zero h =
    let counted : has_number n x ≡ true = h in
    grind (arith, count_by-cons (has_number n) x xs)
has_number-counted n (x ∷ xs) (suc i) h =
    let rest = has_number-counted n xs i h in
    omega (arith, rest, count_by-cons (has_number n) x xs)

-- an entry that is there is found, where its number has no other
pub key_in_found : (e : Entry) (xs : List (Option Entry)) (i : ℕ) → count_by (has_number e.number) xs ≤ 1
    → get_or xs i None ≡ Some e → key_in e.number xs ≡ Some e.key
key_in_found e [] i once h = cc
key_in_found e (None ∷ xs) zero once h = cc
key_in_found e (Some o ∷ xs) zero once h = grind (arith, nat_tests)
key_in_found e (None ∷ xs) (suc i) once h =
    key_in_found e xs i (omega (arith, count_by-cons (has_number e.number) None xs)) h
key_in_found e (Some o ∷ xs) (suc i) once h =
    let counted : cond (eqb o.number e.number) 1 0 + count_by (has_number e.number) xs ≤ 1 =
    omega (arith, count_by-cons (has_number e.number) (Some o) xs) in
    let here : get_or xs i None ≡ Some e = h in
    let one_more : 1 ≤ count_by (has_number e.number) xs =
    has_number-counted e.number xs i (rw here (grind (arith, nat_tests))) in
    grind (arith, nat_tests, key_in_found e xs i)

-- as many slots as are full, one after another, are counted
pub full_window : (xs : List (Option Entry)) (from n : ℕ) → from + n ≤ length xs
    → ((i : ℕ) → from ≤ i → i < from + n → is_some (get_or xs i None) ≡ true) → n ≤ count_by is_some xs
full_window [] from n l full = omega arith
full_window (x ∷ xs) zero zero l full = omega arith
full_window (x ∷ xs) zero (suc n) l full =
    let here : is_some x ≡ true = full 0 (omega arith) (omega arith) in
    let rest = full_window xs 0 n (omega arith) (λ i a b. full (suc i) (omega arith) (omega arith)) in
    grind (arith, count_by-cons is_some x xs)
full_window (x ∷ xs) (suc from) n l full =
    let rest = full_window xs from n (omega arith) (λ i a b. full (suc i) (omega arith) (omega arith)) in
    omega (arith, rest, count_by-cons is_some x xs)

-- no slot has this number
pub none_has_number : (n : ℕ) (xs : List (Option Entry)) → ((i : ℕ) → has_number n (get_or xs i None) ≡ false)
    → key_in n xs ≡ None
none_has_number n [] h = refl
none_has_number n (None ∷ xs) h = none_has_number n xs (λ i. h (suc i))
none_has_number n (Some e ∷ xs) h =
    let here : eqb e.number n ≡ false = h 0 in
    rw here (none_has_number n xs (λ i. h (suc i)))

-- a search for a vacant slot that passes a full one stays in the window
pub vacant-passes : (xs : List (Option Entry)) (home at limit : ℕ) → count_by is_some xs < limit
    → home + limit ≤ length xs → home ≤ at → at < home + limit
    → ((i : ℕ) → home ≤ i → i < at → is_some (get_or xs i None) ≡ true) → is_some (get_or xs at None) ≡ true
    → (home ≤ at + 1) × (at + 1 < home + limit) × ((i : ℕ) → home ≤ i → i < at + 1 → is_some (get_or xs i None) ≡ true)
vacant-passes xs home at limit room size from before full here =
    let more : (i : ℕ) → i < at + 1 → home ≤ i → is_some (get_or xs i None) ≡ true =
    below_more (λ k. home ≤ k → is_some (get_or xs k None) ≡ true) at (λ k b a. full k a b) (λ a. here) in
    let window = full_window xs home (at + 1 - home) (omega arith) (λ i a b. more i (omega arith) a) in
    (omega arith, omega arith, λ i a b. more i b a)
