-- The numbers that rounds are drawn by.
use Rattle.std.proofs.Common.{◌≡◌, ℕ, zero, suc, ◌+◌, ◌*◌, ◌%◌, ◌<◌, ap, arith, refl}
use Rattle.nio_load.specs.Generator.{number_after}

pub number_first : 1 ≡ number_after 0
unfolding number_after
number_first = refl

pub number_next : (r : ℕ) → (number_after r * 1103515245 + 12345) % 2147483648 ≡ number_after (r + 1)
unfolding number_after
number_next r = let next : suc r ≡ r + 1 = omega arith in ap number_after next

pub number_small : (r : ℕ) → number_after r < 2147483648
unfolding number_after
number_small zero = omega arith
number_small (suc r) = omega arith
