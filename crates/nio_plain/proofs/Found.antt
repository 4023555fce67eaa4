-- The numbers below a limit: the least one that passes a test, and the least that isn't made.
use Rattle.std.proofs.Common.{◌≡◌, ℕ, zero, suc, ◌<◌, ◌≤◌, Bool, true, false, not, cond, List, [], ◌∷◌, ◌++◌, find}
use Rattle.std.proofs.Common.{Option, Some, None, refl, sym, ap, ◌∙◌, subst, arith, ⊎_elim}
use Rattle.std.proofs.lemmas.Bool.{cases_eq, cases_lt, cond-true, cond-false}
use Rattle.std.proofs.lemmas.List.Elements.{All-push, All-nil, All-weaker, Contains-push, Contains-append_left}
use Rattle.std.specs.List.{All, Contains}
use Rattle.nio_plain.specs.Seq.Names.{below}

abbrev or_else : Option ℕ → Option ℕ → Option ℕ
or_else None o = o
or_else (Some x) o = Some x

find-push : (p : ℕ → Bool) (xs : List ℕ) (y : ℕ)
    → find p (xs ++ y ∷ []) ≡ or_else (find p xs) (cond (p y) (Some y) None)
find-push p [] y = refl
find-push p (x ∷ xs) y =
    elim (p x)
    as (λ b. cond {A = Option ℕ} b (Some x) (find p (xs ++ y ∷ []))
    ≡ or_else (cond {A = Option ℕ} b (Some x) (find p xs)) (cond {A = Option ℕ} (p y) (Some y) None))
    [ true ↦ refl | false ↦ find-push p xs y ]

pub find_none : (p : ℕ → Bool) (m : ℕ) → ((k : ℕ) → k < m → p k ≡ false) → find p (below m) ≡ None
find_none p zero h = refl
find_none p (suc m) h =
    (find-push p (below m) m
    ∙ ap (λ o. or_else o (cond (p m) (Some m) None)) (find_none p m (λ k l. h k (omega arith))))
    ∙ cond-false (p m) (Some m) None (h m (omega arith))

pub find_first : (p : ℕ → Bool) (m n : ℕ) → n < m → p n ≡ true → ((k : ℕ) → k < n → p k ≡ false)
    → find p (below m) ≡ Some n
find_first p zero n l t h = absurd (omega arith)
find_first p (suc m) n l t h =
    ⊎_elim
    (λ (k : n < m). find-push p (below m) m ∙ ap (λ o. or_else o (cond (p m) (Some m) None)) (find_first p m n k t h))
    (λ (k : m ≤ n).
    let e : m ≡ n = omega arith in
    ((find-push p (below m) m
    ∙ ap (λ o. or_else o (cond (p m) (Some m) None)) (find_none p m (λ j i. h j (omega arith))))
    ∙ cond-true (p m) (Some m) None (ap p e ∙ t)) ∙ ap (λ x. Some x) e)
    (cases_lt n m)

-- what is found passes the test, and is below the limit
pub found_below : (p : ℕ → Bool) (m n : ℕ) → find p (below m) ≡ Some n → (p n ≡ true) × (n < m)
found_below p zero n e = absurd cc
found_below p (suc m) n e = by_first (found_below p m n) (find p (below m)) refl (sym (find-push p (below m) m) ∙ e)
  where
    by_last : (b : Bool) → p m ≡ b → cond {A = Option ℕ} b (Some m) None ≡ Some n → (p n ≡ true) × (n < suc m)
    by_last true t now =
        let same : m ≡ n = cc in
        (subst (λ (k : ℕ). p k ≡ true) same t, omega arith)
    by_last false t now = absurd cc

    by_first : (find p (below m) ≡ Some n → (p n ≡ true) × (n < m)) → (o : Option ℕ) → find p (below m) ≡ o
        → or_else o (cond (p m) (Some m) None) ≡ Some n → (p n ≡ true) × (n < suc m)
    by_first rest None first now = by_last (p m) refl now
    by_first rest (Some k) first now =
        let found = rest (first ∙ now) in
        (found.0, omega arith)

-- n is made of all numbers below it, and of no others
module _ (made : ℕ → Bool) (limit n : ℕ) (is_made : (k : ℕ) → k < n → made k ≡ true)
    (is_unmade : (k : ℕ) → n ≤ k → made k ≡ false) where
  pub find_unmade : n < limit → find (λ s. not (made s)) (below limit) ≡ Some n
  find_unmade l =
      find_first (λ s. not (made s)) limit n l (ap not (is_unmade n (omega arith))) (λ k h. ap not (is_made k h))

  pub find_spent : limit ≤ n → find (λ s. not (made s)) (below limit) ≡ None
  find_spent l =
      find_none (λ s. not (made s)) limit (λ k h. ap not (is_made k (omega arith)))

-- the numbers below n
pub below_all : (n : ℕ) → All (λ i. i < n) (below n)
below_all zero = All-nil (λ i. i < 0)
below_all (suc n) =
    All-push (λ i. i < suc n) (below n) n
    (All-weaker (λ i. i < n) (λ i. i < suc n) (λ i l. omega arith) (below n) (below_all n)) (omega arith)

pub below_contains : (n i : ℕ) → i < n → Contains (below n) i
below_contains zero i l = absurd (omega arith)
below_contains (suc n) i l =
    ⊎_elim
    (λ (e : i ≡ n). subst (λ k. Contains (below n ++ n ∷ []) k) (sym e) (Contains-push (below n) n))
    (λ (ne : i ≡ n → ⊥). Contains-append_left (below n) (n ∷ []) i (below_contains n i (omega arith)))
    (cases_eq i n)
