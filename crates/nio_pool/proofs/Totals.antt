-- Sums over what all passes know.
use Rattle.std.proofs.Common.{◌≡◌, ◌≢◌, ℕ, zero, suc, ◌+◌, List, [], ◌∷◌, length, set, sum_by}
use Rattle.std.proofs.Common.{sym, refl, ap, ◌∙◌, subst, ⊎_elim, arith, Bool, eqb, eq-eqb, cond, add_comm}
use Rattle.std.proofs.lemmas.List.Sums.{sum_by-cons}
use mathlib.Core.Option.{some, some-injective, some-ne-none}
use lib.ListN.{get_elem?}
use Rattle.crossbeam_queue.proofs.Lists.{at_set}
use Rattle.nio_pool.specs.declared.hand.Hand.{Hand}
use Rattle.nio_pool.specs.Hands.{times}

-- the sum after one view has changed
pub total_set : (f : Hand → ℕ) (views : List Hand) (place : ℕ) (v w : Hand) → get_elem? views place ≡ some v
    → sum_by f (set views place w) + f v ≡ sum_by f views + f w
total_set f [] place v w at = absurd (some-ne-none v (sym at))
total_set f (x ∷ xs) zero v w at =
    let here : f x ≡ f v = ap f (some-injective x v at) in
    omega (arith, sum_by-cons f w xs, sum_by-cons f x xs)
total_set f (x ∷ xs) (suc i) v w at =
    let later = total_set f xs i v w at in
    omega (arith, sum_by-cons f x xs, sum_by-cons f x (set xs i w))

-- where the parts of the passes add up to 0 each has none
pub none_has_parts : (views : List Hand) → sum_by (λ v. v.parts) views ≡ 0 → (place : ℕ) (v : Hand)
    → get_elem? views place ≡ some v → v.parts ≡ 0
none_has_parts [] zero_sum place v at = absurd (some-ne-none v (sym at))
none_has_parts (x ∷ xs) zero_sum zero v at =
    let here : x.parts ≡ v.parts = ap (λ (u : Hand). u.parts) (some-injective x v at) in
    omega (arith, sum_by-cons (λ (u : Hand). u.parts) x xs)
none_has_parts (x ∷ xs) zero_sum (suc i) v at =
    none_has_parts xs (omega (arith, sum_by-cons (λ (u : Hand). u.parts) x xs)) i v at

-- where no pass has put or taken anything it weighs nothing
pub all_none : (weight : ℕ → ℕ) (f : Hand → List ℕ) (views : List Hand)
    → ((place : ℕ) (v : Hand) → get_elem? views place ≡ some v → f v ≡ [])
    → sum_by (λ v. sum_by weight (f v)) views ≡ 0
all_none weight f [] none = refl
all_none weight f (x ∷ xs) none =
    let here : sum_by weight (f x) ≡ 0 = ap (sum_by weight) (none zero x refl) in
    let later = all_none weight f xs (λ i v at. none (suc i) v at) in
    omega (arith, sum_by-cons (λ (v : Hand). sum_by weight (f v)) x xs)

-- what holds of all views after one has changed
pub all_set : (F : Hand → Type 0) (views : List Hand) (place : ℕ) (w : Hand) → F w
    → ((i : ℕ) (u : Hand) → i ≢ place → get_elem? views i ≡ some u → F u)
    → (i : ℕ) (u : Hand) → get_elem? (set views place w) i ≡ some u → F u
all_set F views place w mine others i u at =
    ⊎_elim (λ (x : (i ≡ place) × (w ≡ u)). subst F x.1 mine)
    (λ (x : (i ≢ place) × (get_elem? views i ≡ some u)). others i u x.0 x.1) (at_set views place i w u at)

-- a weight of 1 each counts
pub count_all : (xs : List ℕ) → sum_by (λ _. 1) xs ≡ length xs
count_all [] = refl
count_all (x ∷ xs) = let later = count_all xs in omega (arith, sum_by-cons (λ (k : ℕ). 1) x xs)

-- a number stands once more in a list that it is put before
pub times_more : (n : ℕ) (xs : List ℕ) → times n (n ∷ xs) ≡ times n xs + 1
times_more n xs =
    let f : ℕ → ℕ = λ k. cond (eqb k n) 1 0 in
    let one : f n ≡ 1 = ap (λ (b : Bool). cond {A = ℕ} b 1 0) (eq-eqb n n refl) in
    let more : sum_by f (n ∷ xs) ≡ f n + sum_by f xs = sum_by-cons f n xs in
    more ∙ ap (λ (k : ℕ). k + sum_by f xs) one ∙ add_comm 1 (sum_by f xs)
