-- How many of a list are counted.
use Rattle.std.proofs.Common.{◌≡◌, ◌≢◌, ℕ, zero, suc, ◌+◌, ◌<◌, ◌≤◌, inl, inr, Bool, true, false, IsTrue, IsFalse}
use Rattle.std.proofs.Common.{if◌then◌else◌, List, [], ◌∷◌, ◌++◌, length, refl, sym, ap, ◌∙◌, arith}
use Rattle.std.specs.Prelude.{All, AllPairs, Contains, count_by, slice_index_or}
use Rattle.std.proofs.lemmas.List.Elements.{All-nil, All-cons, All-head, All-tail}
use Rattle.std.proofs.lemmas.List.Sums.{sum_by-append}
use Rattle.nio_base.specs.declared.numbers.ChanId.{ChanId}
use Rattle.nio_link.proofs.Channels.{channel_is_or_not}

abbrev pub one_if : Bool → ℕ
one_if b = if b then 1 else 0

one_if-few : (b : Bool) → one_if b ≤ 1
one_if-few true = omega arith
one_if-few false = omega arith

-- ---- lists of which no two are the same

pub pairs_head : {X : Type 0} (R : X → X → Type 0) (x : X) (xs : List X) → AllPairs R (x ∷ xs) → All (R x) xs
pairs_head R x xs all = λ k d few. all 0 (suc k) d (omega arith) (omega arith)

pub pairs_tail : {X : Type 0} (R : X → X → Type 0) (x : X) (xs : List X) → AllPairs R (x ∷ xs) → AllPairs R xs
pairs_tail R x xs all = λ i j d before within. all (suc i) (suc j) d (omega arith) (omega arith)

-- what is in a list is its first, or in the rest
pub contains_else : {X : Type 0} (x own : X) (xs : List X) → x ≢ own → Contains (x ∷ xs) own → Contains xs own
contains_else x own xs other (zero, within, is) = absurd (other is)
contains_else x own xs other (suc k, within, is) = (k, omega arith, is)

pub contains_nothing : {X : Type 0} (own : X) → Contains [] own → ⊥
contains_nothing own (k, within, is) = absurd (omega arith)

-- ---- counts

one_of : {X : Type 0} (f : X → Bool) (x : X) → count_by f (x ∷ []) ≡ one_if (f x)
one_of f x = omega arith

count_cons : {X : Type 0} (f : X → Bool) (x : X) (xs : List X) → count_by f (x ∷ xs) ≡ one_if (f x) + count_by f xs
count_cons f x xs = omega (arith, sum_by-append (λ y. if f y then 1 else 0) (x ∷ []) xs, one_of f x)

pub count_push : {X : Type 0} (f : X → Bool) (xs : List X) (x : X)
    → count_by f (xs ++ x ∷ []) ≡ count_by f xs + one_if (f x)
count_push f xs x = omega (arith, sum_by-append (λ y. if f y then 1 else 0) xs (x ∷ []), one_of f x)

pub count_same : {X : Type 0} (f g : X → Bool) (xs : List X) → All (λ x. g x ≡ f x) xs
    → count_by g xs ≡ count_by f xs
count_same f g [] same = refl
count_same f g (x ∷ xs) same =
    let first : one_if (g x) ≡ one_if (f x) = ap one_if (All-head (λ y. g y ≡ f y) x xs same) in
    let rest = count_same f g xs (All-tail (λ y. g y ≡ f y) x xs same) in
    omega (arith, count_cons f x xs, count_cons g x xs, first, rest)

pub count_few : {X : Type 0} (f : X → Bool) (xs : List X) → count_by f xs ≤ length xs
count_few f [] = omega arith
count_few f (x ∷ xs) = omega (arith, count_cons f x xs, count_few f xs, one_if-few (f x))

-- where every one is counted
pub count_all : {X : Type 0} (f : X → Bool) (xs : List X) → count_by f xs ≡ length xs → All (λ x. IsTrue (f x)) xs
count_all f [] all = All-nil (λ x. IsTrue (f x))
count_all f (x ∷ xs) all =
    let first : (b : Bool) → one_if b + count_by f xs ≡ suc (length xs) → (b ≡ true) × (count_by f xs ≡ length xs)
    = λ b sum. elim b as (λ v. one_if v + count_by f xs ≡ suc (length xs) → (v ≡ true) × (count_by f xs ≡ length xs)) [
      | true ↦ λ is. (refl, omega arith)
      | false ↦ λ is. absurd (omega (arith, count_few f xs))
    ] sum in
    let both = first (f x) (sym (count_cons f x xs) ∙ all) in
    All-cons (λ y. IsTrue (f y)) x xs both.0 (count_all f xs both.1)

pub count_none : {X : Type 0} (f : X → Bool) (xs : List X) → All (λ x. IsFalse (f x)) xs → count_by f xs ≡ 0
count_none f [] none = refl
count_none f (x ∷ xs) none =
    let first : one_if (f x) ≡ 0 = ap one_if (All-head (λ y. IsFalse (f y)) x xs none) in
    omega (arith, count_cons f x xs, first, count_none f xs (All-tail (λ y. IsFalse (f y)) x xs none))

-- where one more may be counted, which stands once in the list
pub count_one_in : (f g : ChanId → Bool) (own : ChanId) (xs : List ChanId) → AllPairs (λ a b. a ≢ b) xs
    → Contains xs own → f own ≡ false → ((k : ℕ) (d : ChanId) → k < length xs → slice_index_or xs k d ≢ own
    → g (slice_index_or xs k d) ≡ f (slice_index_or xs k d))
    → count_by g xs ≡ count_by f xs + one_if (g own)
count_one_in f g own [] apart has was others = absurd (contains_nothing own has)
count_one_in f g own (x ∷ xs) apart has was others = elim (channel_is_or_not x own) [
  | inl same ↦
      let rest : count_by g xs ≡ count_by f xs = count_same f g xs
      (λ k d few. others (suc k) d (omega arith)
      (λ at. pairs_head (λ a b. a ≢ b) x xs apart k d few (same ∙ sym at))) in
      let old : one_if (f x) ≡ 0 = ap one_if (ap f same ∙ was) in
      let new : one_if (g x) ≡ one_if (g own) = ap (λ c. one_if (g c)) same in
      omega (arith, count_cons f x xs, count_cons g x xs, rest, old, new)
  | inr other ↦
      let rest = count_one_in f g own xs (pairs_tail (λ a b. a ≢ b) x xs apart) (contains_else x own xs other has) was
      (λ k d few. others (suc k) d (omega arith)) in
      let first : one_if (g x) ≡ one_if (f x) = ap one_if (others 0 x (omega arith) other) in
      omega (arith, count_cons f x xs, count_cons g x xs, rest, first)
]

-- where one isn't counted
pub count_less : (f : ChanId → Bool) (own : ChanId) (xs : List ChanId) → Contains xs own → f own ≡ false
    → count_by f xs + 1 ≤ length xs
count_less f own [] has not = absurd (contains_nothing own has)
count_less f own (x ∷ xs) has not = elim (channel_is_or_not x own) [
  | inl same ↦
      let here : one_if (f x) ≡ 0 = ap one_if (ap f same ∙ not) in
      omega (arith, count_cons f x xs, here, count_few f xs)
  | inr other ↦
      omega (arith, count_cons f x xs, one_if-few (f x), count_less f own xs (contains_else x own xs other has) not)
]
