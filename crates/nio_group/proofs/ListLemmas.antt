-- What is at each index of a list after a write or a push, and counts.
use Rattle.std.proofs.Common.{◌≡◌, ℕ, ◌+◌, ◌<◌, Bool, true, cond, eqb, List, [], ◌∷◌, ◌++◌, count_by, get_or, set}
use Rattle.std.proofs.Common.{length, refl, sym, ap, ◌∙◌, subst, arith, inl, inr, false}
use Rattle.std.proofs.lemmas.List.{get_or-set_other, get_or-set_same, get_or_append_left, get_or_push, get_or_past}
use Rattle.std.proofs.lemmas.List.{length_push}
use Rattle.std.proofs.lemmas.List.Sums.{sum_by_push}
use Rattle.std.proofs.lemmas.Bool.{cases_order, eqb-true, eqb-false, cases_lt, false≢true}
use Rattle.nio_group.proofs.TableLemmas.{by_test}

pub count_by-push : {X : Type 0} (p : X → Bool) (xs : List X) (y : X)
    → count_by p (xs ++ y ∷ []) ≡ count_by p xs + cond (p y) 1 0
count_by-push p xs y = sum_by_push (λ x. cond (p x) 1 0) xs y

pub eqb-same : (n : ℕ) → eqb n n ≡ true
eqb-same n = by_test (eqb n n) (λ t. t) (λ f. absurd (eqb-false n n f refl))

-- what is at an index after a write
pub get_or-set : {X : Type 0} (xs : List X) (i : ℕ) (y d : X) (n : ℕ) → i < length xs
    → get_or (set xs i y) n d ≡ cond (eqb n i) y (get_or xs n d)
get_or-set xs i y d n l =
    by_test (eqb n i)
    (λ t. let same = eqb-true n i t in
    subst (λ (k : ℕ). get_or (set xs i y) k d ≡ y) (sym same) (get_or-set_same xs i y d l)
    ∙ sym (ap (λ b. cond b y (get_or xs n d)) t))
    (λ f. get_or-set_other xs i n y d (eqb-false n i f)
    ∙ sym (ap (λ b. cond b y (get_or xs n d)) f))

-- what is at an index after a push
pub get_or-push : {X : Type 0} (xs : List X) (y d : X) (n : ℕ)
    → get_or (xs ++ y ∷ []) n d ≡ cond (eqb n (length xs)) y (get_or xs n d)
get_or-push xs y d n =
    by_test (eqb n (length xs))
    (λ t. get_or_push xs y d n (sym (eqb-true n (length xs) t)) ∙ sym (ap (λ b. cond b y (get_or xs n d)) t))
    (λ f. let differ = eqb-false n (length xs) f in
    elim (cases_order n (length xs)) [
      | inl same ↦ absurd (differ same)
      | inr other ↦
          elim other [
            | inl below ↦ get_or_append_left xs (y ∷ []) d n below ∙ sym (ap (λ b. cond b y (get_or xs n d)) f)
            | inr above ↦
                get_or_past (xs ++ y ∷ []) n d (omega (arith, length_push xs y))
                ∙ sym (get_or_past xs n d (omega arith))
                ∙ sym (ap (λ b. cond b y (get_or xs n d)) f)
          ]
    ])

-- an index where a test holds that fails past the end is one of the list's
pub within-where : {X : Type 0} (p : X → Bool) (xs : List X) (i : ℕ) (d : X) → p d ≡ false → p (get_or xs i d) ≡ true
    → i < length xs
within-where p xs i d fails holds =
    elim (cases_lt i (length xs)) [
      | inl l ↦ l
      | inr past ↦ absurd (false≢true (sym fails ∙ sym (ap p (get_or_past xs i d past)) ∙ holds))
    ]
