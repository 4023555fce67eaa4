-- What is told of the candidates in rising order: all keys that are ready.
use Rattle.std.proofs.Common.{◌≡◌, ◌≢◌, ℕ, ◌+◌, ◌<◌, ◌≤◌, ◌==◌, nat_lt, Bool, true, false, not, cond, ◌⊎◌, inl, inr}
use Rattle.std.proofs.Common.{Option, List, [], ◌∷◌, ◌++◌, length, get_or, map, refl, ap, sym, ◌∙◌, subst, eq-eqb, arith}
use Rattle.std.specs.Prelude.{option_to_list}
use Rattle.std.specs.List.{All, Contains, filter}
use Rattle.std.specs.List.Sorted.{IsStrictlyIncreasing}
use Rattle.std.proofs.lemmas.Bool.{cases_eq, cases_lt, lt-ltb, le-ltb}
use Rattle.std.proofs.lemmas.List.{map-append, get_or_default}
use Rattle.std.proofs.lemmas.List.Elements.{All-head, All-tail, All-contains, filter-append}
use Rattle.std.proofs.lemmas.List.Kept.{AllPairs-from_increasing}
use Rattle.nio_steps.specs.declared.looked.LookedKey.{LookedKey}
use Rattle.nio_select.specs.Asked.{keys_to}
use Rattle.nio_kept.proofs.Looks.{each_of}
use Rattle.nio_kept.specs.News.{AreFound, ready_for, ready_keys}

ready_keys-append : (kept : List ℕ) (xs ys : List LookedKey)
    → ready_keys kept (xs ++ ys) ≡ ready_keys kept xs ++ ready_keys kept ys
ready_keys-append kept xs ys =
    ap (filter (λ (pair : ℕ × ℕ). not (pair.1 == 0)))
    (map-append (λ (key : LookedKey). (key.index, ready_for kept key)) xs ys)
    ∙ filter-append (λ (pair : ℕ × ℕ). not (pair.1 == 0))
    (map (λ (key : LookedKey). (key.index, ready_for kept key)) xs)
    (map (λ (key : LookedKey). (key.index, ready_for kept key)) ys)

-- two parts of a list that differ only in keys that aren't ready
pub same_ready : (kept : List ℕ) (p q : LookedKey → Bool) (keys : List LookedKey)
    → All (λ key. (p key ≡ q key) ⊎ (ready_for kept key ≡ 0)) keys
    → ready_keys kept (filter p keys) ≡ ready_keys kept (filter q keys)
same_ready kept p q [] each = refl
same_ready kept p q (k ∷ later) each =
    by_key (All-head (λ key. (p key ≡ q key) ⊎ (ready_for kept key ≡ 0)) k later each)
    (same_ready kept p q later (All-tail (λ key. (p key ≡ q key) ⊎ (ready_for kept key ≡ 0)) k later each))
  where
    with_key : (b : Bool) → ready_keys kept (filter p later) ≡ ready_keys kept (filter q later)
        → ready_keys kept (cond b (k ∷ filter p later) (filter p later))
        ≡ ready_keys kept (cond b (k ∷ filter q later) (filter q later))
    with_key true rest =
        ap (λ (pairs : List (ℕ × ℕ)). cond (not (ready_for kept k == 0)) ((k.index, ready_for kept k) ∷ pairs) pairs) rest
    with_key false rest = rest

    unready : (b : Bool) (xs : List LookedKey) → ready_for kept k ≡ 0
        → ready_keys kept (cond b (k ∷ xs) xs) ≡ ready_keys kept xs
    unready true xs none =
        ap (λ (t : Bool). cond (not t) ((k.index, ready_for kept k) ∷ ready_keys kept xs) (ready_keys kept xs))
        (eq-eqb (ready_for kept k) 0 none)
    unready false xs none = refl

    by_key : (p k ≡ q k) ⊎ (ready_for kept k ≡ 0) → ready_keys kept (filter p later) ≡ ready_keys kept (filter q later)
        → ready_keys kept (cond (p k) (k ∷ filter p later) (filter p later))
        ≡ ready_keys kept (cond (q k) (k ∷ filter q later) (filter q later))
    by_key (inl same) rest =
        ap (λ (b : Bool). ready_keys kept (cond b (k ∷ filter p later) (filter p later))) same ∙ with_key (q k) rest
    by_key (inr none) rest =
        unready (p k) (filter p later) none ∙ (rest ∙ sym (unready (q k) (filter q later) none))

whole : (keys : List LookedKey) → filter (λ (key : LookedKey). true) keys ≡ keys
whole [] = refl
whole (k ∷ later) = ap (λ (xs : List LookedKey). k ∷ xs) (whole later)

-- What was told is what is ready of the keys below an index. The other candidates are no lower, and the others that are
-- ready are among them.
pub record IsTold (kept : List ℕ) (keys : List LookedKey) (candidates : List ℕ) (n : ℕ) (pairs : List (ℕ × ℕ)) : Type 0
  where
    pub bound : ℕ
    pub told : pairs ≡ ready_keys kept (keys_to bound keys)
    pub over : (k : ℕ) → n ≤ k → k < length candidates → bound ≤ get_or candidates k 0
    pub rest : All (λ key. bound ≤ key.index → ready_for kept key ≢ 0
        → (k : ℕ) × (n ≤ k) × (k < length candidates) × (get_or candidates k 0 ≡ key.index)) keys

none_to : (keys : List LookedKey) → keys_to 0 keys ≡ []
none_to [] = refl
none_to (k ∷ later) =
    ap (λ (b : Bool). cond b (k ∷ keys_to 0 later) (keys_to 0 later)) (le-ltb k.index 0 (omega arith)) ∙ none_to later

pub told_none : (kept : List ℕ) (keys : List LookedKey) (candidates : List ℕ) → AreFound kept keys candidates
    → IsTold kept keys candidates 0 []
told_none kept keys candidates found = record {
  bound = 0;
  told = sym (ap (ready_keys kept) (none_to keys));
  over = λ k from within. omega arith;
  rest = each_of (λ key. 0 ≤ key.index → ready_for kept key ≢ 0
      → (k : ℕ) × (0 ≤ k) × (k < length candidates) × (get_or candidates k 0 ≡ key.index)) keys
      (λ key within above ready. at key (All-contains (λ e. ready_for kept e ≢ 0 → Contains candidates e.index) keys key
      found within ready));
}
  where
    at : (key : LookedKey) → Contains candidates key.index
        → (k : ℕ) × (0 ≤ k) × (k < length candidates) × (get_or candidates k 0 ≡ key.index)
    at key there = (there.0, omega arith, there.1, get_or_default candidates there.0 0 key.index there.1 ∙ there.2)

-- the keys between two indexes aren't ready
between : (kept : List ℕ) (keys : List LookedKey) (candidates : List ℕ) (n i : ℕ) (pairs : List (ℕ × ℕ))
    → IsStrictlyIncreasing candidates → n < length candidates → i ≡ get_or candidates n 0
    → (so_far : IsTold kept keys candidates n pairs)
    → ready_keys kept (keys_to i keys) ≡ ready_keys kept (keys_to so_far.bound keys)
between kept keys candidates n i pairs rises within is so_far =
    same_ready kept (λ (key : LookedKey). nat_lt key.index i) (λ (key : LookedKey). nat_lt key.index so_far.bound) keys
    (each_of (λ key. (nat_lt key.index i ≡ nat_lt key.index so_far.bound) ⊎ (ready_for kept key ≡ 0)) keys by_key)
  where
    low : so_far.bound ≤ i
    low = omega (arith, so_far.over n (omega arith) within, is)

    no_earlier : (key : LookedKey) → key.index < i
        → (k : ℕ) × (n ≤ k) × (k < length candidates) × (get_or candidates k 0 ≡ key.index) → ⊥
    no_earlier key below there = by_order (cases_eq there.0 n)
      where
        by_order : (there.0 ≡ n) ⊎ (there.0 ≡ n → ⊥) → ⊥
        by_order (inl same) =
            let here : get_or candidates n 0 ≡ key.index = subst (λ (k : ℕ). get_or candidates k 0 ≡ key.index) same there.3 in
            omega (arith, here, is, below)
        by_order (inr other) =
            let more = AllPairs-from_increasing candidates rises n there.0 0 (omega (arith, other, there.1)) there.2 in
            omega (arith, more, is, below, there.3)

    by_key : (key : LookedKey) → Contains keys key
        → (nat_lt key.index i ≡ nat_lt key.index so_far.bound) ⊎ (ready_for kept key ≡ 0)
    by_key key there = by_place (cases_lt key.index so_far.bound) (cases_lt key.index i)
      where
        unready : key.index < i → so_far.bound ≤ key.index → ready_for kept key ≡ 0
        unready below above = by_bits (cases_eq (ready_for kept key) 0)
          where
            by_bits : (ready_for kept key ≡ 0) ⊎ (ready_for kept key ≡ 0 → ⊥) → ready_for kept key ≡ 0
            by_bits (inl none) = none
            by_bits (inr some) =
                absurd (no_earlier key below
                (All-contains (λ e. so_far.bound ≤ e.index → ready_for kept e ≢ 0
                → (k : ℕ) × (n ≤ k) × (k < length candidates) × (get_or candidates k 0 ≡ e.index)) keys key so_far.rest there
                above some))

        by_place : (key.index < so_far.bound) ⊎ (so_far.bound ≤ key.index) → (key.index < i) ⊎ (i ≤ key.index)
            → (nat_lt key.index i ≡ nat_lt key.index so_far.bound) ⊎ (ready_for kept key ≡ 0)
        by_place (inl below) rest =
            inl (lt-ltb key.index i (omega (arith, below, low)) ∙ sym (lt-ltb key.index so_far.bound below))
        by_place (inr above) (inl below) = inr (unready below above)
        by_place (inr above) (inr over) = inl (le-ltb key.index i over ∙ sym (le-ltb key.index so_far.bound above))

-- one candidate more
pub told_more : (kept : List ℕ) (keys : List LookedKey) (candidates : List ℕ) (n i : ℕ) (found : Option LookedKey)
    (pairs more : List (ℕ × ℕ)) → IsStrictlyIncreasing candidates → n < length candidates → i ≡ get_or candidates n 0
    → keys_to (i + 1) keys ≡ keys_to i keys ++ option_to_list found
    → more ≡ pairs ++ ready_keys kept (option_to_list found)
    → IsTold kept keys candidates n pairs → IsTold kept keys candidates (n + 1) more
told_more kept keys candidates n i found pairs more rises within is alone added so_far = record {
  bound = i + 1;
  told =
      added ∙ (ap (λ (xs : List (ℕ × ℕ)). xs ++ ready_keys kept (option_to_list found))
      (so_far.told ∙ sym (between kept keys candidates n i pairs rises within is so_far))
      ∙ (sym (ready_keys-append kept (keys_to i keys) (option_to_list found)) ∙ ap (ready_keys kept) (sym alone)));
  over = λ k from below.
      let more = AllPairs-from_increasing candidates rises n k 0 (omega arith) below in
      omega (arith, more, is);
  rest = each_of (λ key. i + 1 ≤ key.index → ready_for kept key ≢ 0
      → (k : ℕ) × (n + 1 ≤ k) × (k < length candidates) × (get_or candidates k 0 ≡ key.index)) keys
      (λ key there above ready. further key above
      (All-contains (λ e. so_far.bound ≤ e.index → ready_for kept e ≢ 0
      → (k : ℕ) × (n ≤ k) × (k < length candidates) × (get_or candidates k 0 ≡ e.index)) keys key so_far.rest there
      (omega (arith, so_far.over n (omega arith) within, is, above)) ready));
}
  where
    further : (key : LookedKey) → i + 1 ≤ key.index
        → (k : ℕ) × (n ≤ k) × (k < length candidates) × (get_or candidates k 0 ≡ key.index)
        → (k : ℕ) × (n + 1 ≤ k) × (k < length candidates) × (get_or candidates k 0 ≡ key.index)
    further key above there =
        let other : (there.0 ≡ n) → ⊥ = λ same.
        (let here : get_or candidates n 0 ≡ key.index = subst (λ (k : ℕ). get_or candidates k 0 ≡ key.index) same there.3 in
        omega (arith, here, is, above)) in
        (there.0, omega (arith, other, there.1), there.2, there.3)

-- all was told
pub told_all : (kept : List ℕ) (keys : List LookedKey) (candidates : List ℕ) (n : ℕ) (pairs : List (ℕ × ℕ))
    → length candidates ≤ n → IsTold kept keys candidates n pairs → pairs ≡ ready_keys kept keys
told_all kept keys candidates n pairs over so_far =
    so_far.told
    ∙ (same_ready kept (λ (key : LookedKey). nat_lt key.index so_far.bound) (λ (key : LookedKey). true) keys
    (each_of (λ key. (nat_lt key.index so_far.bound ≡ true) ⊎ (ready_for kept key ≡ 0)) keys by_key)
    ∙ ap (ready_keys kept) (whole keys))
  where
    by_key : (key : LookedKey) → Contains keys key
        → (nat_lt key.index so_far.bound ≡ true) ⊎ (ready_for kept key ≡ 0)
    by_key key there = by_place (cases_lt key.index so_far.bound)
      where
        unready : so_far.bound ≤ key.index → ready_for kept key ≡ 0
        unready above = by_bits (cases_eq (ready_for kept key) 0)
          where
            by_bits : (ready_for kept key ≡ 0) ⊎ (ready_for kept key ≡ 0 → ⊥) → ready_for kept key ≡ 0
            by_bits (inl none) = none
            by_bits (inr some) =
                let at = All-contains (λ e. so_far.bound ≤ e.index → ready_for kept e ≢ 0
                → (k : ℕ) × (n ≤ k) × (k < length candidates) × (get_or candidates k 0 ≡ e.index)) keys key so_far.rest there
                above some in
                absurd (omega (arith, over, at.1, at.2))

        by_place : (key.index < so_far.bound) ⊎ (so_far.bound ≤ key.index)
            → (nat_lt key.index so_far.bound ≡ true) ⊎ (ready_for kept key ≡ 0)
        by_place (inl below) = inl (lt-ltb key.index so_far.bound below)
        by_place (inr above) = inr (unready above)
