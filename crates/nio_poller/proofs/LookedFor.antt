-- What was told of looked keys, by keys and by what was told.
use Rattle.std.proofs.Common.{◌≡◌, ℕ, ◌+◌, ◌==◌, nat_lt, Bool, true, false, cond, not, ◌&&◌, ◌||◌, if◌then◌else◌}
use Rattle.std.proofs.Common.{Option, Some, None, List, [], ◌∷◌, ◌++◌, fold, bit_and, bit_or, refl, ap, sym, ◌∙◌, arith}
use Rattle.std.proofs.Common.{eqb-true, eq-eqb, ne_eqb}
use Rattle.std.proofs.lemmas.Bool.{eqb-false, ltb-false, ltb-true}
use Rattle.std.specs.Prelude.{option_map}
use Rattle.std.specs.List.{filter, list_any}
use Rattle.std.proofs.lemmas.List.Elements.{All-weaker, filter_passes}
use Rattle.std.proofs.lemmas.List.Folds.{list_any-append, list_any_none}
use Rattle.std.proofs.lemmas.Nat.{le_or_l, le_or_r}
use Rattle.std.proofs.lemmas.Nat.Bits.{bit_at_or, bit_at_and, same_from_bits}
use Rattle.nio_history.specs.Lists.{ListEntry}
use Rattle.nio_select.specs.Asked.{key_at, key_with, keys_to}
use Rattle.nio_steps.specs.Lists.{listed_at}
use Rattle.nio_steps.specs.SelectCalls.{told_bits}
use Rattle.nio_steps.specs.declared.looked.LookedKey.{LookedKey}
use Rattle.nio_poller.specs.Until.{looked_for, tells_some}

-- ---- tests

or_none : (a : Bool) → (a || false) ≡ a
or_none true = refl
or_none false = refl

or_parts : (a b c : Bool) → ((a || b) || c) ≡ (a || (b || c))
or_parts true b c = refl
or_parts false b c = refl

or_mixed : (a b c d : Bool) → ((a || b) || (c || d)) ≡ ((a || c) || (b || d))
or_mixed true b c d = refl
or_mixed false true true d = refl
or_mixed false true false d = refl
or_mixed false false c d = refl

-- some element passes one of two tests
any_either : {X : Type 0} (p q : X → Bool) (xs : List X)
    → list_any (λ x. p x || q x) xs ≡ (list_any p xs || list_any q xs)
any_either p q [] = refl
any_either p q (x ∷ xs) =
    ap (λ (b : Bool). (p x || q x) || b) (any_either p q xs) ∙ or_mixed (p x) (q x) (list_any p xs) (list_any q xs)

-- some element of a filtered list passes a test that only elements pass which the filter keeps
any_filter : {X : Type 0} (p q : X → Bool) → ((x : X) → p x ≡ false → q x ≡ false) → (xs : List X)
    → list_any q xs ≡ list_any q (filter p xs)
any_filter p q fails [] = refl
any_filter {X = X} p q fails (x ∷ xs) = by_test (p x) refl (any_filter p q fails xs)
  where
    by_test : (b : Bool) → p x ≡ b → list_any q xs ≡ list_any q (filter p xs)
        → (q x || list_any q xs) ≡ list_any q (cond b (x ∷ filter p xs) (filter p xs))
    by_test true kept later = ap (λ (b : Bool). q x || b) later
    by_test false dropped later = ap (λ (b : Bool). b || list_any q xs) (fails x dropped) ∙ later

-- ---- the key of an index

key_at-index : (i : ℕ) (key : LookedKey) (found : Option ListEntry) → Some key ≡ option_map (key_with i) found
    → key.index ≡ i
key_at-index i key None same = absurd (cc same)
key_at-index i key (Some e) same =
    let this : key ≡ key_with i e = cc same in ap (λ (k : LookedKey). k.index) this

module _ (keys : List LookedKey) (i ops : ℕ) where
  abbrev wants : LookedKey → Bool
  wants entry = (i == entry.index) && not (bit_and ops entry.interest == 0)

  elsewhere : (entry : LookedKey) → (i == entry.index) ≡ false → wants entry ≡ false
  elsewhere entry other = ap (λ (b : Bool). b && not (bit_and ops entry.interest == 0)) other

  above : (entry : LookedKey) → nat_lt entry.index (i + 1) ≡ false → wants entry ≡ false
  above entry high =
      let greater = ltb-false entry.index (i + 1) high in
      elsewhere entry (ne_eqb i entry.index (λ same. omega (arith, greater, same)))

  below : (entry : LookedKey) → nat_lt entry.index i ≡ true → wants entry ≡ false
  below entry low =
      let less = ltb-true entry.index i low in
      elsewhere entry (ne_eqb i entry.index (λ same. omega (arith, less, same)))

  -- only what the list has of the index counts
  among : (here : List LookedKey) → keys_to (i + 1) keys ≡ keys_to i keys ++ here
      → looked_for keys i ops ≡ list_any wants here
  among here parts =
      any_filter (λ (e : LookedKey). nat_lt e.index (i + 1)) wants above keys
      ∙ ap (list_any wants) parts
      ∙ list_any-append wants (keys_to i keys) here
      ∙ ap (λ (b : Bool). b || list_any wants here)
      (list_any_none wants (keys_to i keys)
      (All-weaker (λ (e : LookedKey). nat_lt e.index i ≡ true) (λ e. wants e ≡ false) below (keys_to i keys)
      (filter_passes (λ (e : LookedKey). nat_lt e.index i) keys)))

  pub looked_for-key : (key : LookedKey) → keys_to (i + 1) keys ≡ keys_to i keys ++ key ∷ []
      → Some key ≡ key_at i keys → looked_for keys i ops ≡ not (bit_and ops key.interest == 0)
  looked_for-key key parts is =
      let index : key.index ≡ i = key_at-index i key (listed_at keys i) is in
      among (key ∷ []) parts
      ∙ or_none (wants key)
      ∙ ap (λ (b : Bool). b && not (bit_and ops key.interest == 0)) (eq-eqb i key.index (sym index))

  pub looked_for-none : keys_to (i + 1) keys ≡ keys_to i keys ++ [] → looked_for keys i ops ≡ false
  looked_for-none parts = among [] parts

-- ---- what was told of a key

or_zero : (a b : ℕ) → not (bit_or a b == 0) ≡ (not (a == 0) || not (b == 0))
or_zero a b = by_test (a == 0) (b == 0) refl refl
  where
    by_test : (x y : Bool) → (a == 0) ≡ x → (b == 0) ≡ y → not (bit_or a b == 0) ≡ (not x || not y)
    by_test true true none nothing =
        ap not
        (eq-eqb (bit_or a b) 0
        (ap (λ (n : ℕ). bit_or n b) (eqb-true a 0 none) ∙ ap (bit_or 0) (eqb-true b 0 nothing)))
    by_test true false none some =
        ap not (ne_eqb (bit_or a b) 0 (λ same. eqb-false b 0 some (omega (arith, le_or_r a b, same))))
    by_test false y some is =
        ap not (ne_eqb (bit_or a b) 0 (λ same. eqb-false a 0 some (omega (arith, le_or_l a b, same))))

or_meets : (a b m : ℕ) → bit_and (bit_or a b) m ≡ bit_or (bit_and a m) (bit_and b m)
or_meets a b m =
    same_from_bits (bit_and (bit_or a b) m) (bit_or (bit_and a m) (bit_and b m))
    (λ i. simp (bit_at_or, bit_at_and) (omega arith))

module _ (i m : ℕ) where
  abbrev tells : ℕ × ℕ → Bool
  tells pair = (pair.0 == i) && not (bit_and pair.1 m == 0)

  abbrev with_pair : ℕ → ℕ × ℕ → ℕ
  with_pair bits pair = if pair.0 == i then bit_or bits pair.1 else bits

  -- what was told after these bits has an operation of m, or one of the bits is
  told_after : (pairs : List (ℕ × ℕ)) (bits : ℕ)
      → not (bit_and (fold with_pair bits pairs) m == 0) ≡ (not (bit_and bits m == 0) || list_any tells pairs)
  told_after [] bits = sym (or_none (not (bit_and bits m == 0)))
  told_after (pair ∷ pairs) bits = told_after pairs (with_pair bits pair) ∙ by_test (pair.0 == i)
    where
      by_test : (b : Bool)
          → (not (bit_and (if b then bit_or bits pair.1 else bits) m == 0) || list_any tells pairs)
          ≡ (not (bit_and bits m == 0) || ((b && not (bit_and pair.1 m == 0)) || list_any tells pairs))
      by_test true =
          ap (λ (b : Bool). b || list_any tells pairs)
          (ap (λ (n : ℕ). not (n == 0)) (or_meets bits pair.1 m) ∙ or_zero (bit_and bits m) (bit_and pair.1 m))
          ∙ or_parts (not (bit_and bits m == 0)) (not (bit_and pair.1 m == 0)) (list_any tells pairs)
      by_test false = refl

-- a key is told bits that it is looked for where some pair has its index and one of them
told_some : (pairs : List (ℕ × ℕ)) (entry : LookedKey)
    → list_any (tells entry.index entry.interest) pairs ≡ not (told_bits pairs entry == 0)
told_some pairs entry = sym (told_after entry.index entry.interest pairs 0)

-- ---- by keys and by what was told

pub tells_some-pairs : (looked : List LookedKey) (pairs : List (ℕ × ℕ))
    → list_any (λ (pair : ℕ × ℕ). looked_for looked pair.0 pair.1) pairs ≡ tells_some looked pairs
tells_some-pairs [] pairs = nothing pairs
  where
    nothing : (xs : List (ℕ × ℕ)) → list_any (λ (_ : ℕ × ℕ). false) xs ≡ false
    nothing [] = refl
    nothing (x ∷ xs) = nothing xs
tells_some-pairs (entry ∷ looked) pairs =
    any_either (tells entry.index entry.interest) (λ (pair : ℕ × ℕ). looked_for looked pair.0 pair.1) pairs
    ∙ ap (λ (b : Bool). b || list_any (λ (pair : ℕ × ℕ). looked_for looked pair.0 pair.1) pairs) (told_some pairs entry)
    ∙ ap (λ (b : Bool). not (told_bits pairs entry == 0) || b) (tells_some-pairs looked pairs)
