-- What stands below a bound is changed, place by place.
use Rattle.std.proofs.Common.{◌≡◌, ℕ, ◌+◌, ◌<◌, ◌≤◌, ltb, List, length, get_or, set, sym, ap, ◌∙◌, arith, ⊎_elim}
use Rattle.std.proofs.lemmas.Bool.{cond-true, cond-false, lt-ltb, le-ltb, cases_lt}
use Rattle.nio_history.specs.State.{put}
use Rattle.nio_plain.proofs.Places.{same_function, put_is, places-set, places_at, places_past}
use Rattle.nio_plain.specs.PlainState.{places, changed}

module _ {A : Type 0} (change : A → A) (f : ℕ → A) where
  pub changed-below : (n i : ℕ) → i < n → changed change f n i ≡ change (f i)
  changed-below n i h = cond-true (ltb i n) (change (f i)) (f i) (lt-ltb i n h)

  pub changed-past : (n i : ℕ) → n ≤ i → changed change f n i ≡ f i
  changed-past n i h = cond-false (ltb i n) (change (f i)) (f i) (le-ltb i n h)

  changed-more : (n : ℕ) → changed change f (n + 1) ≡ put (changed change f n) n (change (f n))
  changed-more n =
      put_is (changed change f (n + 1)) (changed change f n) n (change (f n))
      (changed-below (n + 1) n (omega arith))
      (λ m ne. ⊎_elim
      (λ (l : m < n). changed-below (n + 1) m (omega arith) ∙ sym (changed-below n m l))
      (λ (l : n ≤ m). changed-past (n + 1) m (omega arith) ∙ sym (changed-past n m l))
      (cases_lt m n))

-- one place more is changed
pub changed-step : {X A : Type 0} (row : X → A) (none : A) (change : A → A) (f : ℕ → A) (items : List X) (i : ℕ)
    (x y : X) → places row none items ≡ changed change f i → i < length items → x ≡ get_or items i x
    → row y ≡ change (row x) → places row none (set items i y) ≡ changed change f (i + 1)
changed-step {X} {A} row none change f items i x y so_far h e done =
    let at = places_at row none items i x h e in
    let same = (sym at ∙ ap (λ (g : ℕ → A). g i) so_far) ∙ changed-past change f i i (omega arith) in
    (places-set row none items i y h
    ∙ (ap (λ r. put (places row none items) i r) (done ∙ ap change same) ∙ ap (λ g. put g i (change (f i))) so_far))
    ∙ sym (changed-more change f i)

-- all that a vector holds is changed, where the change of what isn't there is nothing
pub changed-all : {X A : Type 0} (row : X → A) (none : A) (change : A → A) (items : List X) (n : ℕ) → length items ≤ n
    → change none ≡ none → changed change (places row none items) n ≡ (λ i. change (places row none items i))
changed-all row none change items n h e =
    let f = places row none items in
    same_function (λ i. ⊎_elim
    (λ (l : i < n). changed-below change f n i l)
    (λ (l : n ≤ i). let past = places_past row none items i (omega arith) in
    changed-past change f n i l ∙ (past ∙ (sym e ∙ ap change (sym past))))
    (cases_lt i n))
