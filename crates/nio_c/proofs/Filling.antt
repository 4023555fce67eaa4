-- Writing a list at the front of an array, one element after the other.
use Rattle.std.proofs.Common.{◌≡◌, ℕ, ◌+◌, ◌-◌, ◌<◌, ◌≤◌, List, [], ◌∷◌, ◌++◌, length, map, take, drop, get_or, refl}
use Rattle.std.proofs.Common.{sym, ap, ◌∙◌, arith}
use Rattle.std.proofs.Math.ListN.{set}
use Rattle.std.proofs.lemmas.List.{drop-set, drop-set-add, length-map, length-take-le, map-append, set-append_right}
use Rattle.std.proofs.lemmas.List.{take_more}

module _ {Y : Type 0} where
  append_one : (xs : List Y) (y : Y) (ys : List Y) → xs ++ (y ∷ ys) ≡ (xs ++ (y ∷ [])) ++ ys
  append_one [] y ys = refl
  append_one (x ∷ xs) y ys = ap (λ (r : List Y). x ∷ r) (append_one xs y ys)

  -- the element that follows is written
  pub front_more : (front d : List Y) (i : ℕ) (y : Y) → length front ≡ i → i < length d
      → set (front ++ drop i d) i y ≡ (front ++ (y ∷ [])) ++ drop (i + 1) d
  front_more front d i y long below =
      set-append_right front (drop i d) i i y long (omega arith)
      ∙ (ap (λ (r : List Y). front ++ r) at_seam
      ∙ append_one front y (drop (i + 1) d))
    where
      none : i - i ≡ 0
      none = omega arith

      zero_more : i + 0 ≡ i
      zero_more = omega arith

      at_seam : set (drop i d) (i - i) y ≡ y ∷ drop (i + 1) d
      at_seam =
          ap (λ (k : ℕ). set (drop i d) k y) none
          ∙ (sym (drop-set-add i d 0 y)
          ∙ (ap (λ (k : ℕ). drop i (set d k y)) zero_more ∙ drop-set d i y below))

module _ {X Y : Type 0} (f : X → Y) where
  -- the same of a list that is copied from its front
  pub copied_more : (xs : List X) (d ys : List Y) (i : ℕ) (z : X) (y : Y) → i < length xs → length xs ≤ length d
      → ys ≡ map f (take i xs) ++ drop i d → y ≡ f (get_or xs i z)
      → set ys i y ≡ map f (take (i + 1) xs) ++ drop (i + 1) d
  copied_more xs d ys i z y below room before is =
      ap (λ (r : List Y). set r i y) before
      ∙ (front_more (map f (take i xs)) d i y long (omega arith)
      ∙ ap (λ (r : List Y). r ++ drop (i + 1) d)
      (ap (λ (r : Y). map f (take i xs) ++ (r ∷ [])) is
      ∙ (sym (map-append f (take i xs) (get_or xs i z ∷ [])) ∙ ap (map f) (sym (take_more xs i z below)))))
    where
      long : length (map f (take i xs)) ≡ i
      long = length-map (take i xs) f ∙ length-take-le i xs (omega arith)

  -- and of a list of which one more element is known
  pub known_more : (known next : List X) (d ys : List Y) (i : ℕ) (x : X) (y : Y) → i ≡ length known → i < length d
      → ys ≡ map f known ++ drop i d → next ≡ known ++ (x ∷ []) → y ≡ f x
      → set ys i y ≡ map f next ++ drop (i + 1) d
  known_more known next d ys i x y long below before more is =
      ap (λ (r : List Y). set r i y) before
      ∙ (front_more (map f known) d i y (length-map known f ∙ sym long) below
      ∙ ap (λ (r : List Y). r ++ drop (i + 1) d)
      (ap (λ (r : Y). map f known ++ (r ∷ [])) is
      ∙ (sym (map-append f known (x ∷ [])) ∙ ap (map f) (sym more))))
