-- What stays of a set of operations when all are taken.
use Rattle.std.proofs.Common.{◌≡◌, ℕ}
use Rattle.std.specs.Int.Bits.{and_zero_r}
use Rattle.nio_link.specs.Readiness.{without}

-- a set without every operation is empty
pub all_taken : (ops : ℕ) → without 255 ops ≡ 0
all_taken ops = and_zero_r ops
