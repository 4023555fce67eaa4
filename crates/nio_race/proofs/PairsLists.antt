-- Lists whose elements are related place by place, and the lists of owners.
use Rattle.std.proofs.Common.{◌≡◌, ℕ, zero, suc, ◌<◌, ◌==◌, Bool, true, false, if◌then◌else◌, List, [], ◌∷◌, length}
use Rattle.std.proofs.Common.{map, All, refl, sym, ap, ◌∙◌, subst, eqb-true, eq-eqb, arith}
use Rattle.std.proofs.lemmas.List.{get_or_default, get_or-map}
use Rattle.std.specs.List.{slice_index_or}
use Rattle.nio_race.specs.Ends.{AreEach}

-- ---- places of a list

-- what stands at a place of a list
pub standing : {A : Type 0} (xs : List A) (k : ℕ) → k < length xs → (x : A) × (slice_index_or xs k x ≡ x)
standing [] k below = absurd (omega (arith, below))
standing (x ∷ xs) zero below = (x, refl)
standing (x ∷ xs) (suc k) below = standing xs k (omega (arith, below))

-- what stands at a place, whatever would be said of none
pub at_itself : {A : Type 0} (xs : List A) (k : ℕ) (d : A) → k < length xs
    → slice_index_or xs k (slice_index_or xs k d) ≡ slice_index_or xs k d
at_itself xs k d below = get_or_default xs k (slice_index_or xs k d) d below

-- it is met by what all items meet
pub all-at : {A : Type 0} (P : A → Type 0) (xs : List A) (k : ℕ) (x : A) → k < length xs → slice_index_or xs k x ≡ x
    → All P xs → P x
all-at P xs k x below is all = subst P is (all k x below)

pub map-at : {A B : Type 0} (f : A → B) (xs : List A) (k : ℕ) (x : A) (d : B) → k < length xs
    → slice_index_or xs k x ≡ x → slice_index_or (map f xs) k d ≡ f x
map-at f xs k x d below is = get_or-map f xs k x d below ∙ ap f is

-- ---- two lists, place by place

pub each-nil : {A B : Type 0} (R : A → B → Type 0) → AreEach R [] []
each-nil R = record { count = refl; each = λ k x y below is is'. absurd (omega (arith, below)) }

pub each-head : {A B : Type 0} (R : A → B → Type 0) (x : A) (xs : List A) (y : B) (ys : List B)
    → AreEach R (x ∷ xs) (y ∷ ys) → R x y
each-head R x xs y ys are = are.each 0 x y (omega arith) refl refl

pub each-tail : {A B : Type 0} (R : A → B → Type 0) (x : A) (xs : List A) (y : B) (ys : List B)
    → AreEach R (x ∷ xs) (y ∷ ys) → AreEach R xs ys
each-tail R x xs y ys are = record {
  count = omega (arith, are.count);
  each = λ k a b below is is'. are.each (suc k) a b (omega (arith, below)) is is';
}

pub each-cons : {A B : Type 0} (R : A → B → Type 0) (x : A) (xs : List A) (y : B) (ys : List B)
    → R x y → AreEach R xs ys → AreEach R (x ∷ xs) (y ∷ ys)
each-cons {A = A} {B = B} R x xs y ys here rest = record { count = omega (arith, rest.count); each = at }
  where
    at : (k : ℕ) (a : A) (b : B) → k < length (x ∷ xs) → slice_index_or (x ∷ xs) k a ≡ a
        → slice_index_or (y ∷ ys) k b ≡ b → R a b
    at zero a b below is is' = subst (λ (z : A). R z b) is (subst (R x) is' here)
    at (suc k) a b below is is' = rest.each k a b (omega (arith, below)) is is'

-- what is the same of each two is the same of the lists
pub each-same : {A B C : Type 0} (R : A → B → Type 0) (f : A → C) (g : B → C) (xs : List A) (ys : List B)
    → ((x : A) (y : B) → R x y → g y ≡ f x) → AreEach R xs ys → map g ys ≡ map f xs
each-same R f g [] [] same are = refl
each-same R f g [] (y ∷ ys) same are = absurd (omega (arith, are.count))
each-same R f g (x ∷ xs) [] same are = absurd (omega (arith, are.count))
each-same {C = C} R f g (x ∷ xs) (y ∷ ys) same are =
    let here : g y ≡ f x = same x y (each-head R x xs y ys are) in
    let rest : map g ys ≡ map f xs = each-same R f g xs ys same (each-tail R x xs y ys are) in
    ap (λ (c : C). c ∷ map g ys) here ∙ ap (λ (cs : List C). f x ∷ cs) rest

-- what follows of each two for the second one holds of all of the second list
pub each-all : {A B : Type 0} (R : A → B → Type 0) (P : A → Type 0) (Q : B → Type 0) (xs : List A) (ys : List B)
    → ((x : A) (y : B) → P x → R x y → Q y) → AreEach R xs ys → All P xs → All Q ys
each-all R P Q xs ys follows are all k d below =
    let first = subst (λ (m : ℕ). k < m) are.count below in
    let x = standing xs k first in
    follows x.0 (slice_index_or ys k d) (all-at P xs k x.0 first x.1 all)
    (are.each k x.0 (slice_index_or ys k d) first x.1 (at_itself ys k d below))

-- and the other way round
pub each-back : {A B : Type 0} (R : A → B → Type 0) (P : A → Type 0) (Q : B → Type 0) (xs : List A) (ys : List B)
    → ((x : A) (y : B) → Q y → R x y → P x) → AreEach R xs ys → All Q ys → All P xs
each-back R P Q xs ys follows are all k d below =
    let last = subst (λ (m : ℕ). k < m) (sym are.count) below in
    let y = standing ys k last in
    follows (slice_index_or xs k d) y.0 (all-at Q ys k y.0 last y.1 all)
    (are.each k (slice_index_or xs k d) y.0 below (at_itself xs k d below) y.1)

-- ---- the first element of an owner's list

abbrev pub front_if : {A : Type 0} → Bool → A → List A → List A
front_if true x xs = x ∷ xs
front_if false x xs = xs

abbrev pub behind : {A : Type 0} → List A → List A
behind [] = []
behind (x ∷ xs) = xs

abbrev pub behind_if : {A : Type 0} → Bool → List A → List A
behind_if true xs = behind xs
behind_if false xs = xs

pub map-front : {A B : Type 0} (f : A → B) (b : Bool) (x : A) (xs : List A)
    → map f (if b then x ∷ xs else xs) ≡ front_if b (f x) (map f xs)
map-front f true x xs = refl
map-front f false x xs = refl

-- the other list begins with an element that is related to the first
pub record IsFront {A : Type 0} (R : A → A → Type 0) (x : A) (xs ys : List A) : Type 0 where
  pub head : A
  pub is : ys ≡ head ∷ behind ys
  pub related : R x head
  pub each : AreEach R xs (behind ys)

front : {A : Type 0} (R : A → A → Type 0) (x : A) (xs ys : List A) → AreEach R (x ∷ xs) ys → IsFront R x xs ys
front R x xs [] are = absurd (omega (arith, are.count))
front R x xs (y ∷ ys) are =
    record { head = y; is = refl; related = each-head R x xs y ys are; each = each-tail R x xs y ys are }

-- Each owner n has a list, and x stood in front of that of its owner. So an element that is related to x does in the
-- other list of this owner.
pub record IsStep {A : Type 0} (R : ℕ → A → A → Type 0) (owner : ℕ) (x : A) (olds news : ℕ → List A) : Type 0 where
  pub head : A
  pub tails : ℕ → List A
  pub related : R owner x head
  pub news_are : (n : ℕ) → news n ≡ front_if (owner == n) head (tails n)
  pub each : (n : ℕ) → AreEach (R n) (olds n) (tails n)

pub step : {A : Type 0} (R : ℕ → A → A → Type 0) (owner : ℕ) (x : A) (olds news : ℕ → List A)
    → ((n : ℕ) → AreEach (R n) (front_if (owner == n) x (olds n)) (news n)) → IsStep R owner x olds news
step {A = A} R owner x olds news each =
    record {
      head = own.head;
      tails = λ n. behind_if (owner == n) (news n);
      related = own.related;
      news_are = λ n. (part n (owner == n) refl).0;
      each = λ n. (part n (owner == n) refl).1;
    }
  where
    own : IsFront (R owner) x (olds owner) (news owner)
    own = front (R owner) x (olds owner) (news owner)
        (subst (λ (b : Bool). AreEach (R owner) (front_if b x (olds owner)) (news owner)) (eq-eqb owner owner refl)
        (each owner))

    Part : ℕ → Bool → Type 0
    Part n b = (news n ≡ front_if b own.head (behind_if b (news n))) × AreEach (R n) (olds n) (behind_if b (news n))

    part : (n : ℕ) (b : Bool) → (owner == n) ≡ b → Part n b
    part n true is = subst (λ (m : ℕ). Part m true) (eqb-true owner n is) (own.is, own.each)
    part n false is =
        (refl, subst (λ (b : Bool). AreEach (R n) (front_if b x (olds n)) (news n)) is (each n))
