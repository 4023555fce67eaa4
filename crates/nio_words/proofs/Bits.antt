-- Sets of numbers as the bits of a word.
use Rattle.std.proofs.Common.{◌≡◌, ◌≢◌, ℕ, zero, suc, ◌%◌, ◌^◌, ◌<◌, ◌==◌, Bool, true, false, cond, ◌⊎◌, inl, inr}
use Rattle.std.proofs.Common.{if◌then◌else◌, refl, ap, sym, ◌∙◌, subst, arith, eqb-true}
use Rattle.std.specs.Prelude.{bit_and, bit_or}
use Rattle.std.specs.Int.{bit_at, bit_not, w64}
use Rattle.std.proofs.lemmas.Bool.{eqb-false, cond_both, cases_eq}
use Rattle.std.proofs.lemmas.Nat.{or_lt, or_comm, and_le_l, and_mask}
use Rattle.std.proofs.lemmas.Nat.Bits.{bit_at_set_same, bit_at_set_other, bit_at_clear_same, bit_at_clear_other}
use Rattle.std.proofs.lemmas.Nat.Bits.{bit_at-zero, bit_at-lt, bit_at_or, bit_at_and, bit_at_not, bit_at_above}
use Rattle.std.proofs.lemmas.Nat.Bits.{same_from_bits_below}
use Rattle.nio_history.specs.Answers.{bits_below}
use Rattle.nio_history.specs.State.{put}
use Rattle.nio_history.proofs.Put.{put-same, put-other, put_keeps}
use Rattle.nio_history.proofs.Bits.{bits_below-at}
use Rattle.nio_words.specs.Decodings.{is_set}
use Rattle.nio_words.specs.Encodings.{bit}
use Rattle.nio_words.specs.Instructions.{one_bit}
use Rattle.nio_words.specs.Rule.{HasBit}

pub none_has : (n : ℕ) → HasBit 0 n → ⊥
none_has n has = let e : bit_at 0 n ≡ 0 = bit_at-zero n in omega arith

-- a number of a set with one more is that one, or one of the set
pub more_has : (numbers k n : ℕ) → k < 64 → HasBit (bit_or numbers (one_bit k)) n → (n ≡ k) ⊎ HasBit numbers n
more_has numbers k n below has = by_test (n == k) refl
  where
    by_test : (b : Bool) → (n == k) ≡ b → (n ≡ k) ⊎ HasBit numbers n
    by_test true e = inl (eqb-true n k e)
    by_test false e = inr (sym (bit_at_set_other w64 numbers k below n (eqb-false n k e)) ∙ has)

pub new_has : (numbers k : ℕ) → k < 64 → HasBit (bit_or numbers (one_bit k)) k
new_has numbers k below = bit_at_set_same w64 numbers k below

pub both_has : (a b n : ℕ) → HasBit (bit_or a b) n → HasBit a n ⊎ HasBit b n
both_has a b n has = by_test (bit_at a n == 1) refl
  where
    by_test : (t : Bool) → (bit_at a n == 1) ≡ t → HasBit a n ⊎ HasBit b n
    by_test true e = inl (eqb-true (bit_at a n) 1 e)
    by_test false e =
        let no : bit_at a n ≢ 1 = eqb-false (bit_at a n) 1 e in
        let sum = bit_at_or a b n in
        let below = bit_at-lt a n in
        let below' = bit_at-lt b n in
        inr (omega arith)

pub left_has : (a b n : ℕ) → HasBit a n → HasBit (bit_or a b) n
left_has a b n has = let sum = bit_at_or a b n in let below = bit_at-lt b n in omega arith

pub right_has : (a b n : ℕ) → HasBit b n → HasBit (bit_or a b) n
right_has a b n has = let sum = bit_at_or a b n in let below = bit_at-lt a n in omega arith

-- a number of a set without one is one of the set, and not that one
pub less_has : (numbers k n : ℕ) → numbers < 2 ^ 64 → k < 64 → HasBit (bit_and numbers (bit_not w64 (one_bit k))) n
    → (n ≢ k) × HasBit numbers n
less_has numbers k n fits below has = by_test (n == k) refl
  where
    inside : n < 64
    inside = by_bound (n == n) refl
      where
        small : bit_and numbers (bit_not w64 (one_bit k)) < 2 ^ 64
        small = let le = and_le_l numbers (bit_not w64 (one_bit k)) in omega arith

        by_bound : (b : Bool) → (n == n) ≡ b → n < 64
        by_bound b e = grind (arith, bit_at_above (bit_and numbers (bit_not w64 (one_bit k))) 64 n small)

    by_test : (b : Bool) → (n == k) ≡ b → (n ≢ k) × HasBit numbers n
    by_test true e =
        let same : n ≡ k = eqb-true n k e in
        let cleared : bit_at (bit_and numbers (bit_not w64 (one_bit k))) k
        ≡ 0 = bit_at_clear_same w64 numbers k below in
        let there : bit_at (bit_and numbers (bit_not w64 (one_bit k))) k
        ≡ 1 = subst (λ (m : ℕ). bit_at (bit_and numbers (bit_not w64 (one_bit k))) m ≡ 1) same has in
        absurd (omega arith)
    by_test false e =
        let ne = eqb-false n k e in
        (ne, sym (bit_at_clear_other w64 numbers k below n inside ne) ∙ has)

pub still_has : (numbers k n : ℕ) → numbers < 2 ^ 64 → k < 64 → n ≢ k → HasBit numbers n
    → HasBit (bit_and numbers (bit_not w64 (one_bit k))) n
still_has numbers k n fits below ne has =
    let inside : n < 64 = grind (arith, bit_at_above numbers 64 n fits) in
    bit_at_clear_other w64 numbers k below n inside ne ∙ has

-- a number of a set without others is one of the set, and none of those
pub kept_has : (a m n : ℕ) → HasBit (bit_and a m) n → HasBit a n
kept_has a m n has =
    let least = bit_at_and a m n in
    let below = bit_at-lt a n in
    omega arith

pub kept_not : (a m n : ℕ) → m < 2 ^ 64 → HasBit (bit_and a (bit_not w64 m)) n → HasBit m n → ⊥
kept_not a m n fits has has' =
    let inside : n < 64 = grind (arith, bit_at_above m 64 n fits) in
    let least = bit_at_and a (bit_not w64 m) n in
    let not_there = bit_at_not w64 m n fits inside in
    omega arith

pub only_has : (k n : ℕ) → k < 64 → HasBit (one_bit k) n → n ≡ k
only_has k n below has = elim (more_has 0 k n below has) [ inl same ↦ same | inr old ↦ absurd (none_has n old) ]

pub alone_has : (k : ℕ) → k < 64 → HasBit (one_bit k) k
alone_has k below = new_has 0 k below

pub kept_all : (a : ℕ) → a < 2 ^ 64 → bit_and a (bit_not w64 0) ≡ a
kept_all a fits = and_mask a 64 ∙ mod_small a fits
  where
    mod_small : (b : ℕ) → b < 2 ^ 64 → b % 2 ^ 64 ≡ b
    mod_small b h = omega arith

-- ---- the word of a set that a test gives

pub bits_below-lt : (k : ℕ) (f : ℕ → Bool) → bits_below k f < 2 ^ k
unfolding bits_below
bits_below-lt zero f = omega arith
bits_below-lt (suc k) f =
    let rest : bits_below k f < 2 ^ k = bits_below-lt k f in
    or_lt (suc k) (bits_below k f) (cond (f k) (2 ^ k) 0) (omega arith)
    (cond_both (f k) (2 ^ k) 0 (λ n. n < 2 ^ suc k) (λ _. omega arith) (λ _. omega arith))

pub bits_below-none : (k : ℕ) → bits_below k (λ _. false) ≡ 0
unfolding bits_below
bits_below-none zero = refl
bits_below-none (suc k) = or_comm (bits_below k (λ _. false)) 0 ∙ bits_below-none k

-- the set of a test that gives the same answers
pub bits_below-same : (k : ℕ) (f g : ℕ → Bool) → ((n : ℕ) → n < k → f n ≡ g n) → bits_below k f ≡ bits_below k g
unfolding bits_below
bits_below-same zero f g same = refl
bits_below-same (suc k) f g same =
    let rest = bits_below-same k f g (λ n below. same n (omega arith)) in
    ap (λ m. bit_or m (if f k then 2 ^ k else 0)) rest
    ∙ ap (λ b. bit_or (bits_below k g) (if b then 2 ^ k else 0)) (same k (omega arith))

test_of : (b : Bool) → (bit b == 1) ≡ b
test_of true = refl
test_of false = refl

pub reads_bit : (f : ℕ → Bool) (i : ℕ) → i < 64 → is_set (bits_below 64 f) i ≡ f i
reads_bit f i below = ap (λ (m : ℕ). m == 1) (bits_below-at 64 f i below) ∙ test_of (f i)

pub one_bit-lt : (k : ℕ) → one_bit k < 2 ^ 64
one_bit-lt k = omega arith

-- a word whose bits are those of a test that is changed at one number
changed_bit : (word : ℕ) (f : ℕ → Bool) (k : ℕ) (x : Bool) → word < 2 ^ 64 → bit_at word k ≡ bit x
    → ((i : ℕ) → i < 64 → i ≢ k → bit_at word i ≡ bit_at (bits_below 64 f) i) → word ≡ bits_below 64 (put f k x)
changed_bit word f k x small here others =
    same_from_bits_below 64 word (bits_below 64 (put f k x)) small (bits_below-lt 64 (put f k x))
    (λ i inside.
    elim (cases_eq i k) [
      | inl same ↦ subst (λ (m : ℕ). bit_at word m ≡ bit (put f k x m)) (sym same) (here ∙ ap bit (sym (put-same f k x)))
      | inr ne ↦ others i inside ne ∙ (bits_below-at 64 f i inside ∙ ap bit (sym (put-other f k x i ne)))
    ]
    ∙ sym (bits_below-at 64 (put f k x) i inside))

pub sets_bit : (f : ℕ → Bool) (k : ℕ) → k < 64 → bit_or (bits_below 64 f) (one_bit k) ≡ bits_below 64 (put f k true)
sets_bit f k below =
    changed_bit (bit_or (bits_below 64 f) (one_bit k)) f k true
    (or_lt 64 _ _ (bits_below-lt 64 f) (one_bit-lt k)) (bit_at_set_same w64 (bits_below 64 f) k below)
    (λ i _ ne. bit_at_set_other w64 (bits_below 64 f) k below i ne)

pub clears_bit : (f : ℕ → Bool) (k : ℕ) → k < 64
    → bit_and (bits_below 64 f) (bit_not w64 (one_bit k)) ≡ bits_below 64 (put f k false)
clears_bit f k below =
    let le = and_le_l (bits_below 64 f) (bit_not w64 (one_bit k)) in
    let lt = bits_below-lt 64 f in
    changed_bit (bit_and (bits_below 64 f) (bit_not w64 (one_bit k))) f k false (omega arith)
    (bit_at_clear_same w64 (bits_below 64 f) k below)
    (λ i inside ne. bit_at_clear_other w64 (bits_below 64 f) k below i inside ne)

-- to set a bit that is set changes nothing
pub sets_again : (f : ℕ → Bool) (k : ℕ) → k < 64 → f k ≡ true → bit_or (bits_below 64 f) (one_bit k) ≡ bits_below 64 f
sets_again f k below is =
    sets_bit f k below
    ∙ bits_below-same 64 (put f k true) f (λ i _. put_keeps (λ n b. b ≡ f n) f k true (λ _. sym is) i refl)
