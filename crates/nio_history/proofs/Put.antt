-- What a change at one number, or at one pair of numbers, keeps.
use Rattle.std.proofs.Common.{◌≡◌, ◌≢◌, ℕ, ◌==◌, Bool, true, false, cond, ◌&&◌, refl, ap, sym, subst, eqb-true, eq-eqb}
use Rattle.std.proofs.lemmas.Bool.{and_parts, and_from, ne_eqb}
use Rattle.nio_history.specs.State.{put, put_at}

-- what is true of a pair of numbers is true of a pair that the test finds the same
pub same_pair : (P : ℕ → ℕ → Type 0) (i j m n : ℕ) → ((i == m) && (j == n)) ≡ true → P i j → P m n
same_pair P i j m n same here =
    let both = and_parts (i == m) (j == n) same in
    subst (λ (k : ℕ). P k n) (eqb-true i m both.0) (subst (λ (k : ℕ). P i k) (eqb-true j n both.1) here)

-- a fact of what stands at a number stays where the new value has it
pub put_keeps : {A : Type 0} (R : ℕ → A → Type 0) (f : ℕ → A) (i : ℕ) (x : A) → (R i (f i) → R i x)
    → (n : ℕ) → R n (f n) → R n (put f i x n)
put_keeps {A = A} R f i x new n here = by_test (n == i) refl
  where
    by_test : (b : Bool) → (n == i) ≡ b → R n (cond b x (f n))
    by_test true e =
        let same : n ≡ i = eqb-true n i e in
        subst (λ (k : ℕ). R k x) (sym same) (new (subst (λ (k : ℕ). R k (f k)) same here))
    by_test false e = here

pub put_at_keeps : {A : Type 0} (R : ℕ → ℕ → A → Type 0) (f : ℕ → ℕ → A) (i j : ℕ) (x : A) → (R i j (f i j) → R i j x)
    → (m n : ℕ) → R m n (f m n) → R m n (put_at f i j x m n)
put_at_keeps {A = A} R f i j x new m n here = by_test ((m == i) && (n == j)) refl
  where
    by_test : (b : Bool) → ((m == i) && (n == j)) ≡ b → R m n (cond b x (f m n))
    by_test true e = same_pair (λ a b. (R a b (f a b) → R a b x) → R m n x) m n i j e (λ its. its here) new
    by_test false e = here

-- a fact of what stands at a number stood before where the new value has it only then
pub put_gave : {A : Type 0} (R : ℕ → A → Type 0) (f : ℕ → A) (i : ℕ) (x : A) → (R i x → R i (f i))
    → (n : ℕ) → R n (put f i x n) → R n (f n)
put_gave {A = A} R f i x old n now = by_test (n == i) refl now
  where
    by_test : (b : Bool) → (n == i) ≡ b → R n (cond b x (f n)) → R n (f n)
    by_test true e now' =
        let same : n ≡ i = eqb-true n i e in
        subst (λ (k : ℕ). R k (f k)) (sym same) (old (subst (λ (k : ℕ). R k x) same now'))
    by_test false e now' = now'

pub put-same : {A : Type 0} (f : ℕ → A) (i : ℕ) (x : A) → put f i x i ≡ x
put-same f i x = ap (λ b. cond b x (f i)) (eq-eqb i i refl)

pub put-other : {A : Type 0} (f : ℕ → A) (i : ℕ) (x : A) (n : ℕ) → n ≢ i → put f i x n ≡ f n
put-other f i x n other = ap (λ b. cond b x (f n)) (ne_eqb n i other)

pub put_at-same : {A : Type 0} (f : ℕ → ℕ → A) (i j : ℕ) (x : A) → put_at f i j x i j ≡ x
put_at-same f i j x = ap (λ b. cond b x (f i j)) (and_from (i == i) (j == j) (eq-eqb i i refl) (eq-eqb j j refl))

-- what is put at a pair of numbers stands there
pub put_at-there : {A : Type 0} (f : ℕ → ℕ → A) (i j : ℕ) (x : A) (m n : ℕ) → ((i == m) && (j == n)) ≡ true
    → put_at f i j x m n ≡ x
put_at-there f i j x m n here = same_pair (λ a b. put_at f i j x a b ≡ x) i j m n here (put_at-same f i j x)

-- a fact of what stands at a number in two functions stays where both new values have it
pub put_both : {A B : Type 0} (R : ℕ → A → B → Type 0) (f : ℕ → A) (g : ℕ → B) (i : ℕ) (x : A) (y : B) → R i x y
    → (n : ℕ) → R n (f n) (g n) → R n (put f i x n) (put g i y n)
put_both {A = A} {B = B} R f g i x y new n here = by_test (n == i) refl
  where
    by_test : (b : Bool) → (n == i) ≡ b → R n (cond b x (f n)) (cond b y (g n))
    by_test true e = subst (λ (k : ℕ). R k x y) (sym (eqb-true n i e)) new
    by_test false e = here

-- the same at a pair of numbers; the two facts of old values may be used
pub put_at_both : {A B : Type 0} (R : ℕ → ℕ → A → B → Type 0) (f : ℕ → ℕ → A) (g : ℕ → ℕ → B) (i j : ℕ) (x : A) (y : B)
    → (R i j (f i j) (g i j) → R i j x y)
    → (m n : ℕ) → R m n (f m n) (g m n) → R m n (put_at f i j x m n) (put_at g i j y m n)
put_at_both {A = A} {B = B} R f g i j x y new m n here = by_test ((m == i) && (n == j)) refl
  where
    by_test : (b : Bool) → ((m == i) && (n == j)) ≡ b → R m n (cond b x (f m n)) (cond b y (g m n))
    by_test true e =
        same_pair (λ a b. (R a b (f a b) (g a b) → R a b x y) → R m n x y) m n i j e (λ its. its here) new
    by_test false e = here

-- a fact of what stands at three numbers, of which the last is changed alone
pub put_pin_keeps : {A : Type 0} (R : ℕ → ℕ → ℕ → A → Type 0) (f : ℕ → ℕ → ℕ → A) (i j k : ℕ) (x : A)
    → (R i j k (f i j k) → R i j k x)
    → (m n o : ℕ) → R m n o (f m n o) → R m n o (put_at f i j (put (f i j) k x) m n o)
put_pin_keeps {A = A} R f i j k x new m n o = put_at_keeps (λ m' n' g. R m' n' o (g o)) f i j (put (f i j) k x)
    (put_keeps (R i j) (f i j) k x new o) m n

-- the same of what stands at three numbers in two functions
pub put_pin_both : {A B : Type 0} (R : ℕ → ℕ → ℕ → A → B → Type 0) (f : ℕ → ℕ → ℕ → A) (g : ℕ → ℕ → ℕ → B) (i j k : ℕ)
    (x : A) (y : B)
    → R i j k x y
    → (m n o : ℕ) → R m n o (f m n o) (g m n o)
    → R m n o (put_at f i j (put (f i j) k x) m n o) (put_at g i j (put (g i j) k y) m n o)
put_pin_both {A = A} {B = B} R f g i j k x y new m n o =
    put_at_both (λ m' n' a b. R m' n' o (a o) (b o)) f g i j (put (f i j) k x) (put (g i j) k y)
    (put_both (R i j) (f i j) (g i j) k x y new o) m n
