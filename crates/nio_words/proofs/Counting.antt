-- How many numbers pass a test that is changed at one number, and how many pins are on an index.
use Rattle.std.proofs.Common.{◌≡◌, ◌≢◌, ℕ, zero, suc, ◌+◌, ◌<◌, ◌≤◌, ◌==◌, Bool, true, false, cond, ◌||◌, not, refl, ap}
use Rattle.std.proofs.Common.{arith, eqb-true}
use Rattle.std.proofs.lemmas.Bool.{eqb-false}
use Rattle.nio_history.specs.Answers.{count_below}
use Rattle.nio_history.specs.State.{put}
use Rattle.nio_history.proofs.Put.{put-other}
use Rattle.nio_words.proofs.Fields.{bit-lt}
use Rattle.nio_words.specs.Encodings.{bit}

pub count_below-le : (k : ℕ) (f : ℕ → Bool) → count_below k f ≤ k
unfolding count_below
count_below-le zero f = omega arith
count_below-le (suc k) f = let less = count_below-le k f in let one = bit-lt (f k) in omega arith

-- beside the numbers below k a change doesn't count
count_below-beyond : (k : ℕ) (f : ℕ → Bool) (n : ℕ) (x : Bool) → k ≤ n → count_below k (put f n x) ≡ count_below k f
unfolding count_below
count_below-beyond zero f n x beyond = refl
count_below-beyond (suc k) f n x beyond =
    let rest = count_below-beyond k f n x (omega arith) in
    let other : put f n x k ≡ f k = put-other f n x k (λ e. omega arith) in
    let same : bit (put f n x k) ≡ bit (f k) = ap bit other in
    omega (arith, rest, same)

pub count_below-put : (k : ℕ) (f : ℕ → Bool) (n : ℕ) (x : Bool) → n < k
    → count_below k (put f n x) + bit (f n) ≡ count_below k f + bit x
unfolding count_below
count_below-put zero f n x below = absurd (omega arith)
count_below-put (suc k) f n x below = by_test (k == n) refl (λ lower. count_below-put k f n x lower)
  where
    by_test : (t : Bool) → (k == n) ≡ t → (n < k → count_below k (put f n x) + bit (f n) ≡ count_below k f + bit x)
        → count_below (suc k) (put f n x) + bit (f n) ≡ count_below (suc k) f + bit x
    by_test true e rest =
        let same : k ≡ n = eqb-true k n e in
        let below_it = count_below-beyond k f n x (omega arith) in
        let here : put f n x k ≡ x = ap (λ b. cond b x (f k)) e in
        let new : bit (put f n x k) ≡ bit x = ap bit here in
        let old : bit (f k) ≡ bit (f n) = ap (λ m. bit (f m)) same in
        omega (arith, below_it, new, old)
    by_test false e rest =
        let ne : k ≢ n = eqb-false k n e in
        let below_it = rest (omega arith) in
        let other : put f n x k ≡ f k = ap (λ b. cond b x (f k)) e in
        let same : bit (put f n x k) ≡ bit (f k) = ap bit other in
        omega (arith, below_it, same)

-- ---- a claim's pin: where the index wasn't claimed, the caller has one more

pub claimed_pins : (f : ℕ → Bool) (me : ℕ) → me < 64 → count_below 64 f ≡ 0
    → count_below 64 (put f me (f me || not false)) ≡ 1
claimed_pins f me below none =
    let without = count_below-put 64 f me false below in
    let count = count_below-put 64 f me (f me || not false) below in
    let new : bit (f me || not false) ≡ 1 = with_true (f me) in
    let no : bit false ≡ 0 = refl in
    omega (arith, without, count, new, no)
  where
    with_true : (b : Bool) → bit (b || not false) ≡ 1
    with_true true = refl
    with_true false = refl

pub same_pins : (f : ℕ → Bool) (me : ℕ) → me < 64 → count_below 64 (put f me (f me || not true)) ≡ count_below 64 f
same_pins f me below =
    let count = count_below-put 64 f me (f me || not true) below in
    let same : bit (f me || not true) ≡ bit (f me) = with_false (f me) in
    omega (arith, count, same)
  where
    with_false : (b : Bool) → bit (b || not true) ≡ bit b
    with_false true = refl
    with_false false = refl
