-- Lists of racers that differ in the ends of pipes that they have.
use Rattle.std.proofs.Common.{◌≡◌, ℕ, ◌<◌, ◌==◌, Bool, true, false, if◌then◌else◌, List, [], ◌++◌, length, map, set}
use Rattle.std.proofs.Common.{get_or, refl, sym, ap, ◌∙◌, subst, ⊎_elim, eqb-true, eq-eqb}
use Rattle.std.proofs.lemmas.Bool.{cases_eq}
use Rattle.std.proofs.lemmas.List.{append-nil, get_or-map, get_or-set_other, get_or-set_same, get_or_default}
use Rattle.std.proofs.lemmas.List.{length-set, map-set}
use Rattle.nio_race.specs.Ends.{AreSameButEnds}
use Rattle.nio_race.specs.declared.racer.Racer.{Racer}

-- ---- racers that are the same but for their ends

same_racer : (x y : Racer) → x ≡ y → y ≡ record x { ends = y.ends }
same_racer x y same = sym (ap (λ (q : Racer). record q { ends = y.ends }) same)

pub same_self : (racers : List Racer) → AreSameButEnds racers racers
same_self racers = record {
  count = refl;
  each = λ k x y below x_is y_is.
      same_racer x y (sym x_is ∙ (get_or_default racers k x y below ∙ y_is));
}

pub same_later : (a b c : List Racer) → AreSameButEnds a b → AreSameButEnds b c → AreSameButEnds a c
same_later a b c first later = record {
  count = later.count ∙ first.count;
  each = λ k x z below x_is z_is.
      let there : k < length b = subst (λ (m : ℕ). k < m) (sym first.count) below in
      let y : Racer = get_or b k x in
      let y_is : get_or b k y ≡ y = get_or_default b k y x there in
      later.each k y z there y_is z_is
      ∙ ap (λ (q : Racer). record q { ends = z.ends }) (first.each k x y below x_is y_is);
}

-- one racer was changed in its ends alone
pub same_but_one : (racers : List Racer) (i : ℕ) (r r' : Racer) → i < length racers → r ≡ get_or racers i r
    → r' ≡ record r { ends = r'.ends } → AreSameButEnds racers (set racers i r')
same_but_one racers i r r' within read is = record {
  count = length-set racers i r';
  each = λ k x y below x_is y_is. ⊎_elim
      (λ (same : k ≡ i).
      let old : x ≡ r = sym x_is ∙ (ap (λ m. get_or racers m x) same
      ∙ (get_or_default racers i x r within ∙ sym read)) in
      let new : r' ≡ y = sym (ap (λ m. get_or (set racers i r') m y) same ∙ get_or-set_same racers i r' y within)
      ∙ y_is in
      subst (λ (q : Racer). q ≡ record x { ends = q.ends }) new
      (is ∙ ap (λ (q : Racer). record q { ends = r'.ends }) (sym old)))
      (λ other. same_racer x y (sym x_is ∙ (get_or_default racers k x y below
      ∙ (sym (get_or-set_other racers i k r' y other) ∙ y_is))))
      (cases_eq k i);
}

-- ---- what racers have

-- What holds of the changed racer's part, and of a part that is as it was, holds of each part.
at_changed : {Y : Type 0} (f : Racer → List Y) (P : Bool → List Y → List Y → Type 0) (racers : List Racer) (i : ℕ)
    (r r' : Racer) (n : ℕ) → i < length racers → r ≡ get_or racers i r → P true (f r) (f r')
    → ((ys : List Y) → P false ys ys)
    → P (i == n) (get_or (map f racers) n []) (get_or (map f (set racers i r')) n [])
at_changed {Y = Y} f P racers i r r' n within read changed same = by_test (i == n) refl
  where
    Goal : Bool → Type 0
    Goal b = P b (get_or (map f racers) n []) (get_or (map f (set racers i r')) n [])

    by_test : (b : Bool) → (i == n) ≡ b → Goal b
    by_test true is =
        let at : i ≡ n = eqb-true i n is in
        let inside : i < length (set racers i r') = subst (λ (m : ℕ). i < m) (sym (length-set racers i r')) within in
        let old : f r ≡ get_or (map f racers) n [] =
        ap f read ∙ (sym (get_or-map f racers i r [] within) ∙ ap (λ m. get_or (map f racers) m []) at) in
        let new : f r' ≡ get_or (map f (set racers i r')) n [] =
        ap f (sym (get_or-set_same racers i r' r' within))
        ∙ (sym (get_or-map f (set racers i r') i r' [] inside)
        ∙ ap (λ m. get_or (map f (set racers i r')) m []) at) in
        subst (λ (ys : List Y). P true ys (get_or (map f (set racers i r')) n [])) old
        (subst (λ (ys : List Y). P true (f r) ys) new changed)
    by_test false is =
        let apart : n ≡ i → ⊥ = λ at. let clash : true ≡ false = sym (eq-eqb i n (sym at)) ∙ is in cc in
        subst (λ (ys : List Y). P false (get_or (map f racers) n []) ys)
        (sym (ap (λ xs. get_or xs n []) (map-set f racers i r')
        ∙ get_or-set_other (map f racers) i n (f r') [] apart))
        (same (get_or (map f racers) n []))

-- ---- one racer's ends change

-- it was given more
pub at_more : {Y : Type 0} (f : Racer → List Y) (racers : List Racer) (i : ℕ) (r r' : Racer) (n : ℕ) (more : List Y)
    → i < length racers → r ≡ get_or racers i r → f r' ≡ f r ++ more
    → get_or (map f (set racers i r')) n [] ≡ get_or (map f racers) n [] ++ (if i == n then more else [])
at_more {Y = Y} f racers i r r' n more within read is =
    at_changed f (λ (b : Bool) (old new : List Y). new ≡ old ++ (if b then more else [])) racers i r r' n within read is
    (λ ys. sym (append-nil ys))

-- some were taken from it
pub at_less : {Y : Type 0} (f : Racer → List Y) (racers : List Racer) (i : ℕ) (r r' : Racer) (n : ℕ) (less : List Y)
    → i < length racers → r ≡ get_or racers i r → f r ≡ f r' ++ less
    → get_or (map f racers) n [] ≡ get_or (map f (set racers i r')) n [] ++ (if i == n then less else [])
at_less {Y = Y} f racers i r r' n less within read is =
    at_changed f (λ (b : Bool) (old new : List Y). old ≡ new ++ (if b then less else [])) racers i r r' n within read is
    (λ ys. sym (append-nil ys))

pub at_same : {Y : Type 0} (f : Racer → List Y) (racers : List Racer) (i : ℕ) (r r' : Racer) (n : ℕ)
    → i < length racers → r ≡ get_or racers i r → f r' ≡ f r
    → get_or (map f (set racers i r')) n [] ≡ get_or (map f racers) n []
at_same {Y = Y} f racers i r r' n within read is =
    at_changed f (λ (b : Bool) (old new : List Y). new ≡ old) racers i r r' n within read is (λ ys. refl)

-- what the racer at this place has
pub had_by : {Y : Type 0} (f : Racer → List Y) (racers : List Racer) (i : ℕ) (r : Racer)
    → i < length racers → r ≡ get_or racers i r → get_or (map f racers) i [] ≡ f r
had_by f racers i r within read = get_or-map f racers i r [] within ∙ ap f (sym read)
