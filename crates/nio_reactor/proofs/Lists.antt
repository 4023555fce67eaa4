-- Lists, and slices of them.
use Rattle.std.proofs.Common.{◌≡◌, ℕ, zero, suc, ◌+◌, ◌<◌, List, []}
use Rattle.std.proofs.Common.{◌∷◌, ◌++◌, length, map, take, drop, get_or, slice_get, slice_set, add-one}
use Rattle.std.proofs.Common.{Some, option_map, All, slice_index_or, refl, sym, ap, subst, ◌∙◌, arith, append_assoc}
use Rattle.std.proofs.Math.Path.{subst₂}
use Rattle.std.proofs.Math.Seq.{take-append_seam}
use Rattle.std.proofs.lemmas.List.{append-nil, map_push, nil_from_length}
use Rattle.std.proofs.lemmas.List.Elements.{All-head, All-push, All-tail}
use Rattle.std.proofs.lemmas.Option.{slice_get-map}
use mathlib.Core.List.{IsPrefix}

pub element : {X : Type 0} (xs : List X) (v : ℕ) → v < length xs → (b : X) × (slice_get xs v ≡ Some b)
element [] v few = absurd (omega (arith, few))
element (b ∷ xs) zero few = (b, refl)
element (b ∷ xs) (suc v) few = element xs v (omega (arith, few))

-- what a function made of all of a list, as a slice
pub slice_back : {A : Type 0} (old before new : List A) (n : ℕ) (P : List A → List A → Type 0) → before ≡ old
    → n ≡ length old → length new ≡ length before → P before new → P old (take n (new ++ drop (length new) old))
slice_back old before new n P old_is n_is count has =
    let back : take n (new ++ drop (length new) old) ≡ new
    = ap (λ k. take k (new ++ drop (length new) old)) (n_is ∙ sym (count ∙ ap length old_is))
    ∙ take-append_seam new (drop (length new) old) in
    subst₂ P old_is (sym back) has

-- ---- the first elements are taken away, one after the other

pub first_taken : {A : Type 0} (xs rest : List A) (x : A) → 0 < length xs → x ≡ get_or xs 0 x
    → rest ≡ take 0 xs ++ drop (0 + 1) xs → xs ≡ x ∷ rest
first_taken [] rest x some is rest_is = absurd (omega (arith, some))
first_taken (y ∷ ys) rest x some is rest_is = ap (λ z. z ∷ ys) (sym is) ∙ ap (λ l. x ∷ l) (sym rest_is)

-- a net was moved into a lane
pub moved : {X N : Type 0} (net : X → N) (lanes after : List X) (more rest all : List N) (lane : X) (n : N)
    → map net lanes ++ more ≡ all → more ≡ n ∷ rest → net lane ≡ n → after ≡ lanes ++ lane ∷ []
    → map net after ++ rest ≡ all
moved net lanes after more rest all lane n was first lane_is after_is =
    ap (λ l. map net l ++ rest) after_is
    ∙ (ap (λ l. l ++ rest) (map_push net lanes lane)
    ∙ (append_assoc (map net lanes) (net lane ∷ []) rest
    ∙ (ap (λ a. map net lanes ++ a ∷ rest) lane_is ∙ (ap (λ l. map net lanes ++ l) (sym first) ∙ was))))

-- and out of it again
pub moved_back : {X N : Type 0} (net : X → N) (more after : List N) (lanes rest : List X) (all : List N) (lane : X)
    → more ++ map net lanes ≡ all → lanes ≡ lane ∷ rest → after ≡ more ++ net lane ∷ [] → after ++ map net rest ≡ all
moved_back net more after lanes rest all lane was first after_is =
    ap (λ l. l ++ map net rest) after_is
    ∙ (append_assoc more (net lane ∷ []) (map net rest) ∙ (ap (λ l. more ++ map net l) (sym first) ∙ was))

pub all_more : {A : Type 0} (P : A → Type 0) (lanes after : List A) (lane : A) → after ≡ lanes ++ lane ∷ []
    → All P lanes → P lane → All P after
all_more P lanes after lane after_is all has = subst (All P) (sym after_is) (All-push P lanes lane all has)

pub nets_end : {A : Type 0} (front more all : List A) → front ++ more ≡ all → length more ≡ 0 → front ≡ all
nets_end front more all was none =
    sym (append-nil front) ∙ (ap (λ l. front ++ l) (sym (nil_from_length more none)) ∙ was)

-- ---- each element

pub at_each : {A : Type 0} (P : A → Type 0) (xs : List A) (i : ℕ) (x : A) → All P xs → i < length xs
    → x ≡ slice_index_or xs i x → P x
at_each P xs i x all few is = subst P (sym is) (all i x few)

-- what was said of two elements, by a number, is said of those that stand at a place of two lists
pub of_each : {A : Type 0} (P : ℕ → A → A → Type 0) (m n : ℕ) (x y a b : A) → m ≡ n → x ≡ a → y ≡ b → P m x y
    → P n a b
of_each P m n x y a b number before after has = subst (λ k. P k a b) number (subst₂ (P m) before after has)

-- ---- one element is changed

-- a function that doesn't see the change sees the same list
pub map_set : {A B : Type 0} (f : A → B) (xs : List A) (i : ℕ) (d y : A) → f y ≡ f (get_or xs i d)
    → map f (slice_set xs i y) ≡ map f xs
map_set f [] i d y same = refl
map_set f (x ∷ xs) zero d y same = ap (λ z. z ∷ map f xs) same
map_set f (x ∷ xs) (suc i) d y same = ap (λ l. f x ∷ l) (map_set f xs i d y same)

-- ---- what is left of a list

pub first_same : {A : Type 0} (x y : A) (xs ys : List A) → x ∷ xs ≡ y ∷ ys → x ≡ y
first_same x y xs ys is = cc

pub rest_same : {A : Type 0} (x y : A) (xs ys : List A) → x ∷ xs ≡ y ∷ ys → xs ≡ ys
rest_same x y xs ys is = cc

pub drop_first : {A : Type 0} (xs rest : List A) (k : ℕ) (x : A) → drop k xs ≡ x ∷ rest
    → (slice_get xs k ≡ Some x) × (rest ≡ drop (k + 1) xs)
drop_first [] rest zero x is = absurd (cc)
drop_first [] rest (suc k) x is = absurd (cc)
drop_first (y ∷ ys) rest zero x is = (ap Some (first_same y x ys rest is), sym (rest_same y x ys rest is))
drop_first (y ∷ ys) rest (suc k) x is =
    let more = drop_first ys rest k x is in
    (more.0, more.1 ∙ ap (λ n. drop n ys) (add-one k) ∙ sym (ap (λ n. drop n (y ∷ ys)) (add-one (suc k))))

-- ---- the first of another list

pub prefix_none : {A : Type 0} (xs ys : List A) → xs ≡ [] → IsPrefix xs ys
prefix_none {A} xs ys none = subst (λ (l : List A). IsPrefix l ys) (sym none) (ys, refl)

-- what stands at the place where the moved ones end
pub at_end : {A B : Type 0} (f : A → B) (front rest all : List A) (all_f : List B) (x : A) (k : ℕ)
    → front ++ x ∷ rest ≡ all → length front ≡ k → map f all ≡ all_f → slice_get all_f k ≡ Some (f x)
at_end f front rest all all_f x k is long mapped =
    ap (λ l. slice_get l k) (sym mapped) ∙ slice_get-map f all k
    ∙ ap (option_map f) (ap (λ l. slice_get l k) (sym is) ∙ at_seam front rest x k long)
  where
    at_seam : {A : Type 0} (front rest : List A) (x : A) (k : ℕ) → length front ≡ k
        → slice_get (front ++ x ∷ rest) k ≡ Some x
    at_seam [] rest x zero long = refl
    at_seam [] rest x (suc k) long = absurd (omega (arith, long))
    at_seam (y ∷ front) rest x zero long = absurd (omega (arith, long))
    at_seam (y ∷ front) rest x (suc k) long = at_seam front rest x k (omega (arith, long))

-- what was said of all holds of the first, and of the rest
pub first_has : {A : Type 0} (P : A → Type 0) (xs rest : List A) (x : A) → xs ≡ x ∷ rest → All P xs → P x
first_has P xs rest x is all = All-head P x rest (subst (All P) is all)

pub rest_has : {A : Type 0} (P : A → Type 0) (xs rest : List A) (x : A) → xs ≡ x ∷ rest → All P xs → All P rest
rest_has P xs rest x is all = All-tail P x rest (subst (All P) is all)

-- ---- two lists grow by one each

pub pushed_same : {A B C : Type 0} (f : A → C) (h : B → C) (xs more : List A) (ys others : List B) (x : A) (y : B)
    → map f xs ≡ map h ys → f x ≡ h y → more ≡ xs ++ x ∷ [] → others ≡ ys ++ y ∷ [] → map f more ≡ map h others
pushed_same f h xs more ys others x y was same more_is others_is =
    ap (map f) more_is ∙ map_push f xs x ∙ ap (λ l. l ++ f x ∷ []) was ∙ ap (λ z. map h ys ++ z ∷ []) same
    ∙ sym (map_push h ys y) ∙ ap (map h) (sym others_is)

-- the same place of the list that was mapped
pub mapped_at : {A B : Type 0} (f : A → B) (xs : List A) (ys : List B) (k : ℕ) (x : A) → slice_get xs k ≡ Some x
    → map f xs ≡ ys → slice_get ys k ≡ Some (f x)
mapped_at f xs ys k x at mapped =
    ap (λ l. slice_get l k) (sym mapped) ∙ slice_get-map f xs k ∙ ap (option_map f) at
