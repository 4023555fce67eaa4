-- A word of bits that is made bit by bit.
use Rattle.std.proofs.Common.{◌≡◌, ℕ, ◌+◌, ◌<◌, Bool, true, false, if◌then◌else◌, ◌^◌, ◌*◌, ◌%◌, refl, ap, sym, ◌∙◌}
use Rattle.std.proofs.Common.{add-one}
use Rattle.std.specs.Prelude.{bit_or}
use Rattle.std.specs.Int.Bits.{or_zero_r}
use Rattle.std.proofs.lemmas.Nat.{one_shl}
use Rattle.nio_history.specs.Answers.{bits_below}

pub bits_below-more : (test : ℕ → Bool) (bit word : ℕ) → word ≡ bits_below bit test
    → bit_or word (if test bit then 2 ^ bit else 0) ≡ bits_below (bit + 1) test
unfolding bits_below
bits_below-more test bit word h = rw add-one (ap (λ w. bit_or w (if test bit then 2 ^ bit else 0)) h)

pub with_bit : (test : ℕ → Bool) (bit word : ℕ) → bit < 64 → word ≡ bits_below bit test → test bit ≡ true
    → bit_or word (1 * 2 ^ bit % 2 ^ 64) ≡ bits_below (bit + 1) test
with_bit test bit word below h is =
    ap (bit_or word) (one_shl bit 64 below)
    ∙ (ap (λ b. bit_or word (if b then 2 ^ bit else 0)) (sym is) ∙ bits_below-more test bit word h)

pub without_bit : (test : ℕ → Bool) (bit word : ℕ) → word ≡ bits_below bit test → test bit ≡ false
    → word ≡ bits_below (bit + 1) test
without_bit test bit word h is =
    sym (or_zero_r word) ∙ (ap (λ b. bit_or word (if b then 2 ^ bit else 0)) (sym is) ∙ bits_below-more test bit word h)

pub bits_below-none : (test : ℕ → Bool) → bits_below 0 test ≡ 0
unfolding bits_below
bits_below-none test = refl
