-- Lists of ends, of which one goes on and the others stay.
use Rattle.std.proofs.Common.{◌≡◌, ◌≢◌, ℕ, ◌<◌, ◌≤◌, nat_lt, Bool, true, false, Some, None, List, length, map, set}
use Rattle.std.proofs.Common.{refl, sym, ap, ◌∙◌, subst, ⊎_elim, arith, if◌then◌else◌, get_or, position}
use Rattle.std.proofs.lemmas.Bool.{cases_eq, cases_lt, ltb-false}
use Rattle.std.proofs.lemmas.List.{get_or_default, get_or-map, get_or-set_other, get_or-set_same, length-map}
use Rattle.std.proofs.lemmas.List.{length-set}
use Rattle.std.proofs.lemmas.List.Folds.{find_at}
use Rattle.std.proofs.lemmas.List.Quantifiers.{position-Some}
use Rattle.std.proofs.lemmas.List.Sums.{fails_before_first}
use Rattle.std.proofs.lemmas.Option.{slice_get-get_or, slice_get_past}
use Rattle.std.specs.List.{AllPairs, find, position_or_len, slice_get}
use Rattle.nio_plain.proofs.Piping.{position-map}
use Rattle.nio_race.specs.Ends.{AreEach}

-- ---- each element goes on

pub each_itself : {A : Type 0} (R : A → A → Type 0) (xs : List A)
    → ((k : ℕ) (x : A) → k < length xs → get_or xs k x ≡ x → R x x) → AreEach R xs xs
each_itself {A} R xs itself = record {
  count = refl;
  each = λ k x y within at at'. subst (R x) (sym at ∙ (get_or_default xs k x y within ∙ at')) (itself k x within at);
}

-- the element at one place goes on, and each other one as it is
pub each_set : {A : Type 0} (R : A → A → Type 0) (xs : List A) (place : ℕ) (old new : A) → place < length xs
    → old ≡ get_or xs place old → R old new
    → ((k : ℕ) (x : A) → (k ≡ place → ⊥) → k < length xs → get_or xs k x ≡ x → R x x) → AreEach R xs (set xs place new)
each_set {A} R xs place old new inside here goes others = record {
  count = length-set xs place new;
  each = λ k x y within at at'.
      ⊎_elim
      (λ (same : k ≡ place).
      let at_place : get_or xs place x ≡ x = subst (λ (i : ℕ). get_or xs i x ≡ x) same at in
      let new_at : get_or (set xs place new) place y ≡ y =
      subst (λ (i : ℕ). get_or (set xs place new) i y ≡ y) same at' in
      let old_is : old ≡ x = here ∙ (get_or_default xs place old x inside ∙ at_place) in
      let new_is : new ≡ y = sym (get_or-set_same xs place new y inside) ∙ new_at in
      subst (λ (a : A). R a y) old_is (subst (λ (b : A). R old b) new_is goes))
      (λ (other : k ≡ place → ⊥).
      subst (R x) (sym at ∙ (get_or_default xs k x y within ∙ (sym (get_or-set_other xs place k new y other) ∙ at')))
      (others k x other within at))
      (cases_eq k place);
}

-- no two have the same image, also where one with the same image is put in the place of another
pub differ_set : {A B : Type 0} (f : A → B) (xs : List A) (place : ℕ) (old new : A) → place < length xs
    → old ≡ get_or xs place old → f new ≡ f old
    → AllPairs (λ a b. f a ≢ f b) xs → AllPairs (λ a b. f a ≢ f b) (set xs place new)
differ_set {A} f xs place old new inside here same differ =
    λ i j d below within is.
    let size : length (set xs place new) ≡ length xs = length-set xs place new in
    let within_old : j < length xs = omega arith in
    differ i j d below within_old (sym (kept i d) ∙ (is ∙ kept j d))
  where
    kept : (k : ℕ) (d : A) → f (get_or (set xs place new) k d) ≡ f (get_or xs k d)
    kept k d =
        ⊎_elim
        (λ (at : k ≡ place).
        subst (λ (i : ℕ). f (get_or (set xs place new) i d) ≡ f (get_or xs i d)) (sym at)
        (ap f (get_or-set_same xs place new d inside)
        ∙ (same ∙ ap f (here ∙ get_or_default xs place old d inside))))
        (λ (other : k ≡ place → ⊥). ap f (get_or-set_other xs place k new d other))
        (cases_eq k place)

-- where no other has the image of one
pub differs_from : {A B : Type 0} (f : A → B) (xs : List A) (place k : ℕ) (old x : A)
    → AllPairs (λ a b. f a ≢ f b) xs → place < length xs → old ≡ get_or xs place old
    → (k ≡ place → ⊥) → k < length xs → get_or xs k x ≡ x → f x ≡ f old → ⊥
differs_from {A} f xs place k old x differ inside here other within at same =
    ⊎_elim
    (λ (below : k < place).
    differ k place x below inside (ap f at ∙ (same ∙ ap f (here ∙ get_or_default xs place old x inside))))
    (λ (up : place ≤ k).
    let above : place < k = omega (arith, up, other) in
    differ place k x above within
    (ap f (get_or_default xs place x old inside ∙ sym here) ∙ (sym same ∙ ap f (sym at))))
    (cases_lt k place)

-- ---- the first that passes a test

-- the place where none does is past the end
past_end : {A : Type 0} (p : A → Bool) (xs : List A) → position p xs ≡ None → length xs ≤ position_or_len p xs
past_end p xs is = by_test (nat_lt (position_or_len p xs) (length xs)) refl
  where
    by_test : (b : Bool) → nat_lt (position_or_len p xs) (length xs) ≡ b → length xs ≤ position_or_len p xs
    by_test true within =
        let some : Some (position_or_len p xs) ≡ None =
        sym (ap (λ (t : Bool). if t then Some (position_or_len p xs) else None) within) ∙ is in
        absurd (cc some)
    by_test false past = ltb-false (position_or_len p xs) (length xs) past

pub none_passes : {A : Type 0} (p : A → Bool) (xs : List A) → position p xs ≡ None → (k : ℕ) (d : A) → k < length xs
    → p (get_or xs k d) ≡ false
none_passes p xs is k d within =
    let past = past_end p xs is in fails_before_first p xs k d (omega (arith, past))

pub find_none : {A B : Type 0} (p : B → Bool) (f : A → B) (xs : List A) → position (λ x. p (f x)) xs ≡ None
    → find p (map f xs) ≡ None
find_none {A} {B} p f xs is =
    let none : position p (map f xs) ≡ None = position-map p f xs ∙ is in
    find_at p (map f xs) ∙ slice_get_past (map f xs) (position_or_len p (map f xs)) (past_end p (map f xs) none)

-- the place is that of the first
at_first : {A : Type 0} (p : A → Bool) (xs : List A) (place : ℕ) → position p xs ≡ Some place
    → position_or_len p xs ≡ place
at_first p xs place is = by_test (nat_lt (position_or_len p xs) (length xs)) refl
  where
    by_test : (b : Bool) → nat_lt (position_or_len p xs) (length xs) ≡ b → position_or_len p xs ≡ place
    by_test true within =
        let some : Some (position_or_len p xs) ≡ Some place =
        sym (ap (λ (t : Bool). if t then Some (position_or_len p xs) else None) within) ∙ is in
        cc some
    by_test false past =
        let none : None ≡ Some place =
        sym (ap (λ (t : Bool). if t then Some (position_or_len p xs) else None) past) ∙ is in
        absurd (cc none)

pub find_some : {A B : Type 0} (p : B → Bool) (f : A → B) (xs : List A) (place : ℕ) (x : A)
    → position (λ a. p (f a)) xs ≡ Some place → x ≡ get_or xs place x → find p (map f xs) ≡ Some (f x)
find_some {A} {B} p f xs place x is here =
    let within : place < length xs = (position-Some (λ (a : A). p (f a)) xs place x is).0 in
    let some : position p (map f xs) ≡ Some place = position-map p f xs ∙ is in
    let size : length (map f xs) ≡ length xs = length-map xs f in
    find_at p (map f xs)
    ∙ (ap (slice_get (map f xs)) (at_first p (map f xs) place some)
    ∙ (slice_get-get_or (map f xs) place (f x) (omega arith)
    ∙ ap Some (get_or-map f xs place x (f x) within ∙ ap f (sym here))))
