-- Lists: pairs of elements, and where an element stands.
use Rattle.std.proofs.Common.{◌≡◌, suc, ◌⊎◌, inl, inr, Bool, true, false, List, [], ◌∷◌, ◌++◌, refl}
use Rattle.std.proofs.Common.{ap, sym, ◌∙◌, subst, arith}
use Rattle.std.specs.List.{All, AllPairs, Contains, list_any}
use Rattle.std.proofs.lemmas.Bool.{or_left, or_right}
use Rattle.std.proofs.lemmas.List.Folds.{list_any-append}
use Rattle.std.proofs.lemmas.List.Elements.{All-nil, All-cons, All-append, All-tail, All-head, All-weaker, All-contains}
use Rattle.std.proofs.lemmas.List.Elements.{Contains-push, Contains-append_left, Contains-append_right}
use Rattle.std.proofs.lemmas.List.Elements.{Contains-append_cases, Contains-push_cases}
use Rattle.std.proofs.lemmas.List.Kept.{AllPairs-cons}

-- ---- an element of a list

pub contains-middle : {X : Type 0} (xs : List X) (e : X) (later : List X) → Contains (xs ++ e ∷ later) e
contains-middle xs e later =
    Contains-append_right xs (e ∷ later) e (Contains-append_left (e ∷ []) later e (Contains-push [] e))

pub contains-none : {X : Type 0} (e : X) → Contains [] e → ⊥
contains-none e there = absurd (omega (arith, there.1))

pub record Parted {X : Type 0} (xs : List X) (e : X) : Type 0 where
  pub past : List X
  pub later : List X
  pub parts : xs ≡ past ++ e ∷ later

pub parted : {X : Type 0} (xs : List X) (e : X) → Contains xs e → Parted xs e
parted [] e there = absurd (contains-none e there)
parted {X = X} (x ∷ xs) e there = by_place (Contains-append_cases (x ∷ []) xs e there) (parted xs e)
  where
    by_head : Contains [] e ⊎ (x ≡ e) → Parted (x ∷ xs) e
    by_head (inl none) = absurd (contains-none e none)
    by_head (inr same) = record { past = []; later = xs; parts = ap (λ (y : X). y ∷ xs) same }

    by_place : Contains (x ∷ []) e ⊎ Contains xs e → (Contains xs e → Parted xs e) → Parted (x ∷ xs) e
    by_place (inl here) rest = by_head (Contains-push_cases [] x e here)
    by_place (inr further) rest = let found =
        rest further in record { past = x ∷ found.past; later = found.later; parts = ap (λ ys. x ∷ ys) found.parts }

-- a test that an element passes
pub any-of_one : {X : Type 0} (p : X → Bool) (xs : List X) (e : X) → Contains xs e → p e ≡ true → list_any p xs ≡ true
any-of_one p xs e there is =
    let at = parted xs e there in
    ap (list_any p) at.parts ∙ (list_any-append p at.past (e ∷ at.later) ∙ or_right _ _ (or_left _ _ is))

-- where a list has one element that passes a test, it is cut there in one way
pub only_place : {X : Type 0} (p : X → Bool) (xs : List X) (x : X) (ys us : List X) (v : X) (vs : List X) → p x ≡ true
    → All (λ y. p y ≡ false) us → All (λ y. p y ≡ false) vs
    → xs ++ x ∷ ys ≡ us ++ v ∷ vs → (xs ≡ us) × (x ≡ v) × (ys ≡ vs)
only_place p [] x ys [] v vs it none_us none_vs same = (refl, cc same, cc same)
only_place p [] x ys (u ∷ us) v vs it none_us none_vs same =
    let is : x ≡ u = cc same in
    absurd (cc (sym it ∙ (ap p is ∙ All-head (λ y. p y ≡ false) u us none_us)))
only_place p (a ∷ xs) x ys [] v vs it none_us none_vs same =
    let is : xs ++ x ∷ ys ≡ vs = cc same in
    absurd (cc
    (sym it ∙ All-contains (λ y. p y ≡ false) vs x none_vs
    (subst (λ zs. Contains zs x) is (contains-middle xs x ys))))
only_place p (a ∷ xs) x ys (u ∷ us) v vs it none_us none_vs same =
    let first : a ≡ u = cc same in
    let rest = only_place p xs x ys us v vs it (All-tail (λ y. p y ≡ false) u us none_us) none_vs (cc same) in
    (ap (λ z. z ∷ xs) first ∙ ap (λ zs. u ∷ zs) rest.0, rest.1, rest.2)

-- ---- pairs of a list

pub pairs-none : {X : Type 0} (R : X → X → Type 0) → AllPairs R []
pairs-none R i j d before within = absurd (omega arith)

pub pairs-head : {X : Type 0} (R : X → X → Type 0) (x : X) (xs : List X) → AllPairs R (x ∷ xs) → All (R x) xs
pairs-head R x xs pairs k d within = pairs 0 (suc k) d (omega arith) (omega arith)

pub pairs-tail : {X : Type 0} (R : X → X → Type 0) (x : X) (xs : List X) → AllPairs R (x ∷ xs) → AllPairs R xs
pairs-tail R x xs pairs i j d before within = pairs (suc i) (suc j) d (omega arith) (omega arith)

-- two lists, each element of the first with each of the second
pub pairs-append : {X : Type 0} (R : X → X → Type 0) (xs ys : List X) → AllPairs R xs → AllPairs R ys
    → All (λ x. All (R x) ys) xs → AllPairs R (xs ++ ys)
pairs-append R [] ys first second each = second
pairs-append R (x ∷ xs) ys first second each =
    AllPairs-cons R x (xs ++ ys)
    (All-append (R x) xs ys (pairs-head R x xs first) (All-head (λ z. All (R z) ys) x xs each))
    (pairs-append R xs ys (pairs-tail R x xs first) second (All-tail (λ z. All (R z) ys) x xs each))

pub pairs-one : {X : Type 0} (R : X → X → Type 0) (y : X) → AllPairs R (y ∷ [])
pairs-one R y = AllPairs-cons R y [] (All-nil (R y)) (pairs-none R)

pub all-one : {X : Type 0} (P : X → Type 0) (y : X) → P y → All P (y ∷ [])
all-one P y here = All-cons P y [] here (All-nil P)

pub pairs-push : {X : Type 0} (R : X → X → Type 0) (xs : List X) (y : X) → AllPairs R xs → All (λ x. R x y) xs
    → AllPairs R (xs ++ y ∷ [])
pairs-push R xs y pairs each =
    pairs-append R xs (y ∷ []) pairs (pairs-one R y)
    (All-weaker (λ x. R x y) (λ x. All (R x) (y ∷ [])) (λ x here. all-one (R x) y here) xs each)

-- each element before one of a list
pub pairs-before : {X : Type 0} (R : X → X → Type 0) (past : List X) (e : X) (later : List X)
    → AllPairs R (past ++ e ∷ later) → All (λ x. R x e) past
pairs-before R [] e later pairs = All-nil (λ x. R x e)
pairs-before R (x ∷ past) e later pairs =
    All-cons (λ z. R z e) x past
    (All-contains (R x) (past ++ e ∷ later) e (pairs-head R x (past ++ e ∷ later) pairs)
    (contains-middle past e later))
    (pairs-before R past e later (pairs-tail R x (past ++ e ∷ later) pairs))

-- and each element after it
pub pairs-after : {X : Type 0} (R : X → X → Type 0) (past : List X) (e : X) (later : List X)
    → AllPairs R (past ++ e ∷ later) → All (R e) later
pairs-after R [] e later pairs = pairs-head R e later pairs
pairs-after R (x ∷ past) e later pairs = pairs-after R past e later (pairs-tail R x (past ++ e ∷ later) pairs)
