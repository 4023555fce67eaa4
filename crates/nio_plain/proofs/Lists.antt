-- Rising lists of keys with operations: what is told of one key in them.
use Rattle.std.proofs.Common.{◌≡◌, ℕ, zero, suc, ◌<◌, eqb, Bool, true, false, cond, ◌||◌, List, [], ◌∷◌, ◌++◌, take}
use Rattle.std.proofs.Common.{length, get_or, refl, sym, ap, ◌∙◌, arith}
use Rattle.std.proofs.lemmas.Bool.{cond-true, cond-false, eq-eqb, ne_eqb, and_from, and_left, and_right, and_parts}
use Rattle.std.proofs.lemmas.Bool.{or_right, eqb-true}
use Rattle.std.proofs.lemmas.List.{get_or-take, get_or_default, length-take-le}
use Rattle.std.proofs.lemmas.List.Elements.{All-tail}
use Rattle.std.specs.List.{All, AllPairs}
use Rattle.nio_base.specs.declared.numbers.KeyId.{KeyId}
use Rattle.nio_plain.specs.Seq.Names.{is_same_key}
use Rattle.nio_plain.specs.Seq.Selections.{looked_interest, is_looked}

-- ---- two names of one key

pub same-key : (k : KeyId) → is_same_key k k ≡ true
same-key k =
    and_from (eqb k.index k.index) (eqb k.serial k.serial) (eq-eqb k.index k.index refl) (eq-eqb k.serial k.serial refl)

pub same-is : (k m : KeyId) → is_same_key k m ≡ true → k ≡ m
same-is k m h =
    let both = and_parts (eqb k.index m.index) (eqb k.serial m.serial) h in
    let index : k.index ≡ m.index = eqb-true k.index m.index both.0 in
    let serial : k.serial ≡ m.serial = eqb-true k.serial m.serial both.1 in
    λ j. record { index = index j; serial = serial j }

pub other-index : (k m : KeyId) → (k.index ≡ m.index → ⊥) → is_same_key k m ≡ false
other-index k m ne = and_left (eqb k.index m.index) (eqb k.serial m.serial) (ne_eqb k.index m.index ne)

pub other-serial : (k m : KeyId) → (k.serial ≡ m.serial → ⊥) → is_same_key k m ≡ false
other-serial k m ne = and_right (eqb k.index m.index) (eqb k.serial m.serial) (ne_eqb k.serial m.serial ne)

-- ---- rising lists

-- the indexes rise: those before one of them are less
abbrev pub Rise : List (KeyId × ℕ) → Type 0
Rise xs = AllPairs (λ (a b : KeyId × ℕ). a.0.index < b.0.index) xs

abbrev pub AreBelow : List (KeyId × ℕ) → ℕ → Type 0
AreBelow xs n = All (λ (q : KeyId × ℕ). q.0.index < n) xs

pub rising-before : (xs : List (KeyId × ℕ)) (j : ℕ) (p : KeyId × ℕ) → Rise xs → j < length xs → p ≡ get_or xs j p
    → AreBelow (take j xs) p.0.index
rising-before xs j p rising h e = λ k d l.
    let k_before : k < j = omega (arith, length-take-le j xs (omega arith)) in
    let taken = ap (λ (q : KeyId × ℕ). q.0.index) (get_or-take j xs k d k_before) in
    let there = ap (λ (q : KeyId × ℕ). q.0.index) (get_or_default xs j d p h ∙ sym e) in
    let less = rising k j d k_before h in
    omega arith

-- the interest of a key whose index stands nowhere, of the last pair, and of the others beside it

pub looked_interest-absent : (xs : List (KeyId × ℕ)) (k : KeyId) → AreBelow xs k.index → looked_interest xs k ≡ 0
looked_interest-absent [] k h = refl
looked_interest-absent (x ∷ xs) k h =
    let less : x.0.index < k.index = h 0 x (omega arith) in
    cond-false (is_same_key x.0 k) x.1 (looked_interest xs k) (other-index x.0 k (λ e. omega arith))
    ∙ looked_interest-absent xs k (All-tail (λ (q : KeyId × ℕ). q.0.index < k.index) x xs h)

pub looked_interest-last : (xs : List (KeyId × ℕ)) (p : KeyId × ℕ) → AreBelow xs p.0.index
    → looked_interest (xs ++ p ∷ []) p.0 ≡ p.1
looked_interest-last [] p h = cond-true (is_same_key p.0 p.0) p.1 0 (same-key p.0)
looked_interest-last (x ∷ xs) p h =
    let less : x.0.index < p.0.index = h 0 x (omega arith) in
    cond-false (is_same_key x.0 p.0) x.1 (looked_interest (xs ++ p ∷ []) p.0) (other-index x.0 p.0 (λ e. omega arith))
    ∙ looked_interest-last xs p (All-tail (λ (q : KeyId × ℕ). q.0.index < p.0.index) x xs h)

pub looked_interest-others : (xs : List (KeyId × ℕ)) (p : KeyId × ℕ) (k : KeyId) → is_same_key p.0 k ≡ false
    → looked_interest (xs ++ p ∷ []) k ≡ looked_interest xs k
looked_interest-others [] p k ne = cond-false (is_same_key p.0 k) p.1 0 ne
looked_interest-others (x ∷ xs) p k ne =
    elim (is_same_key x.0 k) as (λ b. cond b x.1 (looked_interest (xs ++ p ∷ []) k) ≡ cond b x.1 (looked_interest xs k))
    [ true ↦ refl | false ↦ looked_interest-others xs p k ne ]

-- the interest of a key that stands in a rising list
pub looked_interest-at : (xs : List (KeyId × ℕ)) → Rise xs → (j : ℕ) (d : KeyId × ℕ) → j < length xs
    → looked_interest xs (get_or xs j d).0 ≡ (get_or xs j d).1
looked_interest-at [] rising j d h = absurd (omega arith)
looked_interest-at (x ∷ xs) rising zero d h =
    cond-true (is_same_key x.0 x.0) x.1 (looked_interest xs x.0) (same-key x.0)
looked_interest-at (x ∷ xs) rising (suc j) d h =
    let less : x.0.index < (get_or xs j d).0.index = rising 0 (suc j) d (omega arith) h in
    cond-false (is_same_key x.0 (get_or xs j d).0) x.1 (looked_interest xs (get_or xs j d).0)
    (other-index x.0 (get_or xs j d).0 (λ e. omega arith))
    ∙ looked_interest-at xs (λ i m e l n. rising (suc i) (suc m) e (omega arith) (omega arith)) j d
    (omega arith)

-- ---- whether a key is looked at

pub looked-absent : (xs : List (KeyId × ℕ)) (k : KeyId) → AreBelow xs k.index → is_looked xs k ≡ false
looked-absent [] k h = refl
looked-absent (x ∷ xs) k h =
    let less : x.0.index < k.index = h 0 x (omega arith) in
    ap (λ b. b || is_looked xs k) (other-index x.0 k (λ e. omega arith))
    ∙ looked-absent xs k (All-tail (λ (q : KeyId × ℕ). q.0.index < k.index) x xs h)

looked-push : (xs : List (KeyId × ℕ)) (p : KeyId × ℕ) (k : KeyId)
    → is_looked (xs ++ p ∷ []) k ≡ (is_looked xs k || is_same_key p.0 k)
looked-push [] p k = elim (is_same_key p.0 k) as (λ b. (b || false) ≡ b) [ true ↦ refl | false ↦ refl ]
looked-push (x ∷ xs) p k =
    elim (is_same_key x.0 k) as (λ b. (b || is_looked (xs ++ p ∷ []) k) ≡ ((b || is_looked xs k) || is_same_key p.0 k))
    [ true ↦ refl | false ↦ looked-push xs p k ]

pub looked-last : (xs : List (KeyId × ℕ)) (p : KeyId × ℕ) (k : KeyId) → is_same_key p.0 k ≡ true
    → is_looked (xs ++ p ∷ []) k ≡ true
looked-last xs p k e = looked-push xs p k ∙ or_right (is_looked xs k) (is_same_key p.0 k) e

pub looked-others : (xs : List (KeyId × ℕ)) (p : KeyId × ℕ) (k : KeyId) → is_same_key p.0 k ≡ false
    → is_looked (xs ++ p ∷ []) k ≡ is_looked xs k
looked-others xs p k ne =
    looked-push xs p k
    ∙ (ap (λ b. is_looked xs k || b) ne
    ∙ elim (is_looked xs k) as (λ b. (b || false) ≡ b) [ true ↦ refl | false ↦ refl ])

-- a key with an interest in the list is looked at
pub looked-interested : (xs : List (KeyId × ℕ)) (k : KeyId) → (looked_interest xs k ≡ 0 → ⊥) → is_looked xs k ≡ true
looked-interested [] k h = absurd (h refl)
looked-interested (x ∷ xs) k h = at (looked-interested xs k) (is_same_key x.0 k) h
  where
    at : ((looked_interest xs k ≡ 0 → ⊥) → is_looked xs k ≡ true) → (b : Bool)
        → (cond b x.1 (looked_interest xs k) ≡ 0 → ⊥) → (b || is_looked xs k) ≡ true
    at rest true l = refl
    at rest false l = rest l
