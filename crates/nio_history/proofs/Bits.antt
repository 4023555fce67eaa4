-- The number of a set of bits: which bits it has.
use Rattle.std.proofs.Common.{◌≡◌, ◌≢◌, ℕ, zero, suc, ◌<◌, ◌≤◌, ◌^◌, Bool, true, false, cond, if◌then◌else◌, inl, inr}
use Rattle.std.proofs.Common.{◌∙◌, subst, arith}
use Rattle.std.specs.Int.{bit_at}
use Rattle.std.proofs.lemmas.Bool.{cases_lt}
use Rattle.std.proofs.lemmas.Nat.Bits.{bit_at-zero, bit_at_or, bit_at-pow_same, bit_at-pow_other}
use Rattle.nio_history.specs.Answers.{bits_below}

one_bit-same : (b : Bool) (n : ℕ) → bit_at (cond b (2 ^ n) 0) n ≡ (if b then 1 else 0)
one_bit-same true n = bit_at-pow_same n
one_bit-same false n = bit_at-zero n

one_bit-other : (b : Bool) (n i : ℕ) → i ≢ n → bit_at (cond b (2 ^ n) 0) i ≡ 0
one_bit-other true n i other = bit_at-pow_other n i other
one_bit-other false n i other = bit_at-zero i

-- it has no bit from n on
pub bits_below-above : (n : ℕ) (test : ℕ → Bool) (i : ℕ) → n ≤ i → bit_at (bits_below n test) i ≡ 0
unfolding bits_below
bits_below-above zero test i above = bit_at-zero i
bits_below-above (suc n) test i above =
    let rest : bit_at (bits_below n test) i ≡ 0 = bits_below-above n test i (omega arith) in
    let other : i ≢ n = omega arith in
    let last : bit_at (cond (test n) (2 ^ n) 0) i ≡ 0 = one_bit-other (test n) n i other in
    bit_at_or (bits_below n test) (cond (test n) (2 ^ n) 0) i ∙ omega (arith, rest, last)

-- below n it has each bit at which the test passes
pub bits_below-at : (n : ℕ) (test : ℕ → Bool) (i : ℕ) → i < n → bit_at (bits_below n test) i ≡ (if test i then 1 else 0)
unfolding bits_below
bits_below-at zero test i below = absurd (omega arith)
bits_below-at (suc n) test i below =
    bit_at_or (bits_below n test) (cond (test n) (2 ^ n) 0) i
    ∙ elim (cases_lt i n) [
      | inl lower ↦
          let rest : bit_at (bits_below n test) i ≡ (if test i then 1 else 0) = bits_below-at n test i lower in
          let other : i ≢ n = omega arith in
          let last : bit_at (cond (test n) (2 ^ n) 0) i ≡ 0 = one_bit-other (test n) n i other in
          omega (arith, rest, last)
      | inr upper ↦
          let same : n ≡ i = omega arith in
          let rest : bit_at (bits_below n test) i ≡ 0 = bits_below-above n test i upper in
          let last : bit_at (cond (test n) (2 ^ n) 0) i ≡ (if test i then 1 else 0) = subst
          (λ (k : ℕ). bit_at (cond (test n) (2 ^ n) 0) k ≡ (if test k then 1 else 0)) same
          (one_bit-same (test n) n) in
          omega (arith, rest, last)
    ]
