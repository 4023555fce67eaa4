-- Step 1 of a selection: what it looks at and what it removes, key by key.
use Rattle.std.proofs.Common.{◌≡◌, ℕ, ◌+◌, ◌<◌, eqb, Bool, true, false, cond, List, [], ◌∷◌, ◌++◌, take, length, get_or}
use Rattle.std.proofs.Common.{set, map, filter, refl, sym, ap, ◌∙◌, add-one, ⊎_elim}
use Rattle.std.proofs.lemmas.Bool.{cases_eq, cond-true, cond-false, eq-eqb, ne_eqb}
use Rattle.std.proofs.lemmas.List.{map-append, append-nil, take_more}
use Rattle.nio_base.specs.declared.numbers.KeyId.{KeyId}
use Rattle.nio_history.specs.Sets.{is_valid}
use Rattle.nio_history.specs.State.{put}
use Rattle.nio_plain.proofs.Lists.{same-key, other-index, other-serial, Rise, AreBelow, rising-before, looked-absent}
use Rattle.nio_plain.proofs.Lists.{looked-last, looked-others}
use Rattle.nio_plain.proofs.Places.{same_function, put_is, put_same, places-set, places_at}
use Rattle.nio_plain.specs.PlainState.{KeyRow, places, key_row, no_key, key_id, looked_below, is_listed, listed_below}
use Rattle.nio_plain.specs.PlainState.{swept_key, swept_looked}
use Rattle.nio_plain.specs.Seq.Names.{below, is_same_key}
use Rattle.nio_plain.specs.Seq.Selections.{is_looked}
use Rattle.nio_plain.specs.declared.plain.selector.Key.{Key}
use Rattle.nio_plain.specs.declared.rules.Rules.{Rules}

pub filter-push : (p : ℕ → Bool) (xs : List ℕ) (y : ℕ) → filter p (xs ++ y ∷ []) ≡ filter p xs ++ cond (p y) (y ∷ []) []
filter-push p [] y = refl
filter-push p (x ∷ xs) y =
    elim (p x) as (λ b. cond {A = List ℕ} b (x ∷ filter p (xs ++ y ∷ [])) (filter p (xs ++ y ∷ []))
    ≡ cond {A = List ℕ} b (x ∷ filter p xs) (filter p xs) ++ cond {A = List ℕ} (p y) (y ∷ []) [])
    [ true ↦ ap (λ ys. x ∷ ys) (filter-push p xs y) | false ↦ filter-push p xs y ]

-- what is told of the numbers below n that pass a test, with one number more
module _ {X : Type 0} (f : ℕ → X) (p : ℕ → Bool) (n : ℕ) where
  told_step : map f (filter p (below (n + 1))) ≡ map f (filter p (below n)) ++ map f (cond (p n) (n ∷ []) [])
  told_step =
      (ap (λ m. map f (filter p (below m))) (add-one n) ∙ ap (map f) (filter-push p (below n) n))
      ∙ map-append f (filter p (below n)) (cond (p n) (n ∷ []) [])

  told-yes : p n ≡ true → map f (filter p (below (n + 1))) ≡ map f (filter p (below n)) ++ f n ∷ []
  told-yes h = told_step ∙ ap (λ ys. map f (filter p (below n)) ++ map f ys) (cond-true (p n) (n ∷ []) [] h)

  told-no : p n ≡ false → map f (filter p (below (n + 1))) ≡ map f (filter p (below n))
  told-no h =
      (told_step ∙ ap (λ ys. map f (filter p (below n)) ++ map f ys) (cond-false (p n) (n ∷ []) [] h))
      ∙ append-nil (map f (filter p (below n)))

-- the looked list and the listed keys with one index more; k is what stands there
module _ (keys : ℕ → KeyRow) (n : ℕ) (k : KeyRow) (e : keys n ≡ k) where
  abbrev name : KeyRow → KeyId
  name r = record { index = n; serial = r.stage.serial }

  pub looked_below-valid : is_valid k.stage ≡ true
      → looked_below keys (n + 1) ≡ looked_below keys n ++ (name k, k.interest) ∷ []
  looked_below-valid h =
      told-yes (λ i. (key_id keys i, (keys i).interest)) (λ i. is_valid (keys i).stage) n
      (ap (λ (r : KeyRow). is_valid r.stage) e ∙ h)
      ∙ ap (λ (r : KeyRow). looked_below keys n ++ (name r, r.interest) ∷ []) e

  pub looked_below-other : is_valid k.stage ≡ false → looked_below keys (n + 1) ≡ looked_below keys n
  looked_below-other h =
      told-no (λ i. (key_id keys i, (keys i).interest)) (λ i. is_valid (keys i).stage) n
      (ap (λ (r : KeyRow). is_valid r.stage) e ∙ h)

  pub listed_below-yes : (selected : Bool) → is_listed k selected ≡ true
      → listed_below keys selected (n + 1) ≡ listed_below keys selected n ++ name k ∷ []
  listed_below-yes selected h =
      told-yes (key_id keys) (λ i. is_listed (keys i) selected) n (ap (λ (r : KeyRow). is_listed r selected) e ∙ h)
      ∙ ap (λ (r : KeyRow). listed_below keys selected n ++ name r ∷ []) e

  pub listed_below-no : (selected : Bool) → is_listed k selected ≡ false
      → listed_below keys selected (n + 1) ≡ listed_below keys selected n
  listed_below-no selected h =
      told-no (key_id keys) (λ i. is_listed (keys i) selected) n (ap (λ (r : KeyRow). is_listed r selected) e ∙ h)

-- ---- the looked keys that are cancelled are removed, one by one

module _ (rules : Rules) (keys : ℕ → KeyRow) (xs : List (KeyId × ℕ)) where
  swept_looked-absent : (i : ℕ) → AreBelow xs i → swept_looked rules keys xs i ≡ keys i
  swept_looked-absent i h =
      cond-false (is_looked xs (key_id keys i)) (swept_key rules (keys i)) (keys i) (looked-absent xs (key_id keys i) h)

  module _ (p : KeyId × ℕ) (before : AreBelow xs p.0.index) where
    beside : (m : ℕ) → is_same_key p.0 (key_id keys m) ≡ false
        → swept_looked rules keys (xs ++ p ∷ []) m ≡ swept_looked rules keys xs m
    beside m ne = ap (λ b. cond b (swept_key rules (keys m)) (keys m)) (looked-others xs p (key_id keys m) ne)

    swept_looked-push : (keys p.0.index).stage.serial ≡ p.0.serial
        → swept_looked rules keys (xs ++ p ∷ []) ≡ put (swept_looked rules keys xs) p.0.index
        (swept_key rules (keys p.0.index))
    swept_looked-push same =
        let named : p.0 ≡ key_id keys p.0.index = λ j. record { index = p.0.index; serial = sym same j } in
        put_is (swept_looked rules keys (xs ++ p ∷ [])) (swept_looked rules keys xs) p.0.index
        (swept_key rules (keys p.0.index))
        (cond-true (is_looked (xs ++ p ∷ []) (key_id keys p.0.index)) (swept_key rules (keys p.0.index))
        (keys p.0.index)
        (looked-last xs p (key_id keys p.0.index) (ap (is_same_key p.0) (sym named) ∙ same-key p.0)))
        (λ m ne. beside m (other-index p.0 (key_id keys m) (λ e. ne (sym e))))

    swept_looked-other : ((keys p.0.index).stage.serial ≡ p.0.serial → ⊥)
        → swept_looked rules keys (xs ++ p ∷ []) ≡ swept_looked rules keys xs
    swept_looked-other ne =
        same_function (λ m. ⊎_elim
        (λ (e : m ≡ p.0.index). beside m
        (other-serial p.0 (key_id keys m) (λ d. ne (ap (λ k. (keys k).stage.serial) (sym e) ∙ sym d))))
        (λ (d : m ≡ p.0.index → ⊥). beside m (other-index p.0 (key_id keys m) (λ e. d (sym e))))
        (cases_eq m p.0.index))

module _ (rules : Rules) (keys : ℕ → KeyRow) (xs : List (KeyId × ℕ)) (items : List Key) (j : ℕ) (p : KeyId × ℕ)
    (k : Key) (rising : Rise xs) (h : j < length xs) (e : p ≡ get_or xs j p)
    (so_far : places key_row no_key items ≡ swept_looked rules keys (take j xs)) (within : p.0.index < length items)
    (read : k ≡ get_or items p.0.index k) where
  before_it : AreBelow (take j xs) p.0.index
  before_it = rising-before xs j p rising h e

  longer : take (j + 1) xs ≡ take j xs ++ p ∷ []
  longer = take_more xs j p h ∙ ap (λ q. take j xs ++ q ∷ []) (sym e)

  stands : key_row k ≡ keys p.0.index
  stands =
      (sym (places_at key_row no_key items p.0.index k within read) ∙ ap (λ (f : ℕ → KeyRow). f p.0.index) so_far)
      ∙ swept_looked-absent rules keys (take j xs) p.0.index before_it

  pub swept_looked-step : (k' : Key) → k.serial ≡ p.0.serial → key_row k' ≡ swept_key rules (key_row k)
      → places key_row no_key (set items p.0.index k') ≡ swept_looked rules keys (take (j + 1) xs)
  swept_looked-step k' same done =
      let serial = ap (λ (r : KeyRow). r.stage.serial) (sym stands) ∙ same in
      (places-set key_row no_key items p.0.index k' within
      ∙ (ap (λ r. put (places key_row no_key items) p.0.index r) (done ∙ ap (swept_key rules) stands)
      ∙ ap (λ f. put f p.0.index (swept_key rules (keys p.0.index))) so_far))
      ∙ (sym (swept_looked-push rules keys (take j xs) p before_it serial)
      ∙ ap (λ ys. swept_looked rules keys ys) (sym longer))

  pub swept_looked-skip : (k.serial ≡ p.0.serial → ⊥)
      → places key_row no_key items ≡ swept_looked rules keys (take (j + 1) xs)
  swept_looked-skip ne =
      let other = λ (d : (keys p.0.index).stage.serial ≡ p.0.serial). ne
      (ap (λ (r : KeyRow). r.stage.serial) stands ∙ d) in
      so_far ∙ (sym (swept_looked-other rules keys (take j xs) p before_it other)
      ∙ ap (λ ys. swept_looked rules keys ys) (sym longer))

  pub swept_looked-turn : (k' : Key)
      → key_row k' ≡ cond (eqb k.serial p.0.serial) (swept_key rules (key_row k)) (key_row k)
      → places key_row no_key (set items p.0.index k') ≡ swept_looked rules keys (take (j + 1) xs)
  swept_looked-turn k' done =
      ⊎_elim
      (λ (same : k.serial ≡ p.0.serial). swept_looked-step k' same
      (done ∙ cond-true (eqb k.serial p.0.serial) (swept_key rules (key_row k)) (key_row k)
      (eq-eqb k.serial p.0.serial same)))
      (λ (ne : k.serial ≡ p.0.serial → ⊥).
      let kept = done
      ∙ cond-false (eqb k.serial p.0.serial) (swept_key rules (key_row k)) (key_row k)
      (ne_eqb k.serial p.0.serial ne) in
      (places-set key_row no_key items p.0.index k' within
      ∙ put_same (places key_row no_key items) p.0.index (key_row k')
      (places_at key_row no_key items p.0.index k within read ∙ sym kept)) ∙ swept_looked-skip ne)
      (cases_eq k.serial p.0.serial)
