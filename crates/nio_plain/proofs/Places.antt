-- What a vector holds by the place, after a write and after a push.
use Rattle.std.proofs.Common.{◌≡◌, ℕ, Bool, true, false, zero, suc, ◌<◌, ◌≤◌, eqb, ◌&&◌, List, [], ◌∷◌, ◌++◌, map}
use Rattle.std.proofs.Common.{length, get_or, set, refl, sym, ap, ◌∙◌, arith, ⊎_elim, cond}
use Rattle.std.proofs.lemmas.Bool.{cases_eq, cond-true, cond-false, eq-eqb, ne_eqb, cases_lt, and_from, and_left}
use Rattle.std.proofs.lemmas.Bool.{and_right}
use Rattle.std.proofs.lemmas.List.{get_or-set_same, get_or-set_other, get_or-map, map-set, map_push, get_or_push}
use Rattle.std.proofs.lemmas.List.{get_or_past, length_push, get_or_append_left, length-map as map_length, map-id}
use Rattle.std.proofs.lemmas.List.{get_or-replicate, length-replicate}
use mathlib.Core.Path.{fun_ext}
use lib.ListN.{replicate}
use Rattle.nio_history.specs.State.{put, put_at}
use Rattle.nio_history.proofs.Put.{put-same}
use Rattle.nio_plain.specs.PlainState.{places}

-- two functions are one where they agree everywhere
pub same_function : {A B : Type 0} {f g : A → B} → ((x : A) → f x ≡ g x) → f ≡ g
same_function h = fun_ext h

pub put-elsewhere : {A : Type 0} (f : ℕ → A) (s n : ℕ) (x : A) → (n ≡ s → ⊥) → put f s x n ≡ f n
put-elsewhere f s n x h = cond-false (eqb n s) x (f n) (ne_eqb n s h)

-- a function that is `put` elsewhere: what it is at the place and at the others
pub put_is : {A : Type 0} (g f : ℕ → A) (s : ℕ) (x : A) → g s ≡ x → ((n : ℕ) → (n ≡ s → ⊥) → g n ≡ f n) → g ≡ put f s x
put_is {A} g f s x here other =
    same_function (λ n. ⊎_elim
    (λ (e : n ≡ s). (ap g e ∙ here) ∙ sym (ap (put f s x) e ∙ put-same f s x))
    (λ (ne : n ≡ s → ⊥). other n ne ∙ sym (put-elsewhere f s n x ne))
    (cases_eq n s))

-- what stands there already is put there
pub put_same : {A : Type 0} (f : ℕ → A) (s : ℕ) (x : A) → f s ≡ x → put f s x ≡ f
put_same f s x e = sym (put_is f f s x e (λ n ne. refl))

twice : {A : Type 0} (b : Bool) (x y z : A) → cond b y (cond b x z) ≡ cond b y z
twice true x y z = refl
twice false x y z = refl

-- what is put last at a place is there
pub put-twice : {A : Type 0} (f : ℕ → A) (s : ℕ) (x y : A) → put (put f s x) s y ≡ put f s y
put-twice f s x y = same_function (λ n. twice (eqb n s) x y (f n))

pub put_at-twice : {A : Type 0} (f : ℕ → ℕ → A) (s i : ℕ) (x y : A) → put_at (put_at f s i x) s i y ≡ put_at f s i y
put_at-twice f s i x y = same_function (λ t. same_function (λ j. twice (eqb t s && eqb j i) x y (f t j)))

-- a part of what is put in is put in that part
pub put_part : {R A : Type 0} (part : R → A) (f : ℕ → R) (s : ℕ) (x : R)
    → ◌≡◌ {A = ℕ → A} (λ n. part (put f s x n)) (put (λ n. part (f n)) s (part x))
put_part part f s x =
    put_is (λ n. part (put f s x n)) (λ n. part (f n)) s (part x) (ap part (put-same f s x))
    (λ n ne. ap part (put-elsewhere f s n x ne))

-- a part that stays as it was
pub part_kept : {R A : Type 0} (part : R → A) (f : ℕ → R) (s : ℕ) (x : R) → part x ≡ part (f s)
    → ◌≡◌ {A = ℕ → A} (λ n. part (put f s x n)) (λ n. part (f n))
part_kept part f s x h =
    same_function (λ n. ⊎_elim
    (λ (e : n ≡ s). ((ap (λ m. part (put f s x m)) e ∙ ap part (put-same f s x)) ∙ h) ∙ ap (λ m. part (f m)) (sym e))
    (λ (ne : n ≡ s → ⊥). ap part (put-elsewhere f s n x ne))
    (cases_eq n s))

-- the same at one number
pub put_kept : {R A : Type 0} (part : R → A) (f : ℕ → R) (s : ℕ) (x : R) (n : ℕ) → part x ≡ part (f s)
    → part (put f s x n) ≡ part (f n)
put_kept part f s x n h = ap (λ g. g n) (part_kept part f s x h)

-- a write of one row
pub places-set : {X A : Type 0} (f : X → A) (none : A) (xs : List X) (s : ℕ) (x : X) → s < length xs
    → places f none (set xs s x) ≡ put (places f none xs) s (f x)
unfolding places
places-set f none xs s x h =
    put_is (λ n. get_or (map f (set xs s x)) n none) (λ n. get_or (map f xs) n none) s (f x)
    (ap (λ ys. get_or ys s none) (map-set f xs s x)
    ∙ get_or-set_same (map f xs) s (f x) none (omega (arith, map_length xs f)))
    (λ n ne. ap (λ ys. get_or ys n none) (map-set f xs s x) ∙ get_or-set_other (map f xs) s n (f x) none ne)

-- a push
pub places-push : {X A : Type 0} (f : X → A) (none : A) (xs : List X) (x : X)
    → places f none (xs ++ x ∷ []) ≡ put (places f none xs) (length xs) (f x)
unfolding places
places-push f none xs x =
    let map_len = map_length xs f in
    let pushed = map_push f xs x in
    put_is (λ n. get_or (map f (xs ++ x ∷ [])) n none) (λ n. get_or (map f xs) n none) (length xs) (f x)
    (ap (λ ys. get_or ys (length xs) none) pushed ∙ get_or_push (map f xs) (f x) none (length xs) map_len)
    (λ n ne. ap (λ ys. get_or ys n none) pushed ∙ ⊎_elim
    (λ (l : n < length xs). get_or_append_left (map f xs) (f x ∷ []) none n (omega arith))
    (λ (l : length xs ≤ n). get_or_past (map f xs ++ f x ∷ []) n none (omega (arith, length_push (map f xs) (f x)))
    ∙ sym (get_or_past (map f xs) n none (omega arith)))
    (cases_lt n (length xs)))

pub places_within : {X A : Type 0} (f : X → A) (none : A) (xs : List X) (n : ℕ) (d : X) → n < length xs
    → places f none xs n ≡ f (get_or xs n d)
unfolding places
places_within f none xs n d h = get_or-map f xs n d none h

pub places_past : {X A : Type 0} (f : X → A) (none : A) (xs : List X) (n : ℕ) → length xs ≤ n
    → places f none xs n ≡ none
unfolding places
places_past f none xs n h = get_or_past (map f xs) n none (omega (arith, map_length xs f))

pub places-nil : {X A : Type 0} (f : X → A) (none : A) → places f none [] ≡ (λ _. none)
unfolding places
places-nil f none = refl

-- what holds of each item holds of what stands below the end
pub places_all : {X A : Type 0} (f : X → A) (none : A) (P : A → Type 0) → ((x : X) → P (f x)) → (xs : List X) (n : ℕ)
    → n < length xs → P (places f none xs n)
unfolding places
places_all f none P h [] n l = absurd (omega arith)
places_all f none P h (x ∷ xs) zero l = h x
places_all f none P h (x ∷ xs) (suc n) l = places_all f none P h xs n (omega arith)

pub places-replicate : {A : Type 0} (n : ℕ) (x : A) → places (λ y. y) x (replicate n x) ≡ (λ _. x)
unfolding places
places-replicate {A} n x =
    same_function (λ k. ⊎_elim
    (λ (l : k < length (map {A = A} {B = A} (λ y. y) (replicate n x))). ap (λ xs. get_or xs k x)
    (map-id (replicate n x))
    ∙ get_or-replicate n k x x (omega (arith, map_length (replicate n x) (λ (y : A). y), length-replicate n x)))
    (λ (l : length (map {A = A} {B = A} (λ y. y) (replicate n x)) ≤ k). get_or_past
    (map (λ (y : A). y) (replicate n x)) k x l)
    (cases_lt k (length (map {A = A} {B = A} (λ y. y) (replicate n x)))))

-- what stands where an item was read
pub places_at : {X A : Type 0} (f : X → A) (none : A) (xs : List X) (n : ℕ) (x : X) → n < length xs → x ≡ get_or xs n x
    → places f none xs n ≡ f x
places_at f none xs n x h e = places_within f none xs n x h ∙ ap f (sym e)

-- a function of two numbers that is put at a pair of them: what it is there and elsewhere
pub put_at_is : {A : Type 0} (g f : ℕ → ℕ → A) (s i : ℕ) (x : A) → g s i ≡ x
    → ((t j : ℕ) → (t ≡ s → j ≡ i → ⊥) → g t j ≡ f t j) → g ≡ put_at f s i x
put_at_is {A} g f s i x here other =
    same_function (λ t. same_function (λ j. ⊎_elim
    (λ (e : t ≡ s). ⊎_elim
    (λ (d : j ≡ i). ((ap (λ m. g m j) e ∙ ap (g s) d) ∙ here)
    ∙ sym (cond-true (eqb t s && eqb j i) x (f t j) (and_from (eqb t s) (eqb j i) (eq-eqb t s e) (eq-eqb j i d))))
    (λ (d : j ≡ i → ⊥). other t j (λ _ k. d k)
    ∙ sym (cond-false (eqb t s && eqb j i) x (f t j) (and_right (eqb t s) (eqb j i) (ne_eqb j i d))))
    (cases_eq j i))
    (λ (e : t ≡ s → ⊥). other t j (λ k _. e k)
    ∙ sym (cond-false (eqb t s && eqb j i) x (f t j) (and_left (eqb t s) (eqb j i) (ne_eqb t s e))))
    (cases_eq t s)))

pub places-id : {A : Type 0} (none : A) (xs : List A) (n : ℕ) → places (λ y. y) none xs n ≡ get_or xs n none
unfolding places
places-id none xs n = ap (λ ys. get_or ys n none) (map-id xs)

-- what stands there already is put there
pub put_at_same : {A : Type 0} (f : ℕ → ℕ → A) (s i : ℕ) (x : A) → f s i ≡ x → put_at f s i x ≡ f
put_at_same f s i x e = sym (put_at_is f f s i x e (λ t j h. refl))

-- a function that is put at one number: by what it is there and elsewhere
pub put_by : {B : Type 0} (f : ℕ → B) (s : ℕ) (h : Bool → ℕ → B) → ((t : ℕ) → h false t ≡ f t)
    → put f s (h true s) ≡ (λ t. h (eqb t s) t)
put_by f s h other =
    sym (put_is (λ t. h (eqb t s) t) f s (h true s)
    (ap (λ b. h b s) (eq-eqb s s refl))
    (λ t ne. ap (λ b. h b t) (ne_eqb t s ne) ∙ other t))
