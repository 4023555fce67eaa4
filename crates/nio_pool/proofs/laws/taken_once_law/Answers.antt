use Rattle.std.proofs.Common.{◌==◌, cond, arith}
use Rattle.nio_pool.proofs.laws.taken_once_law.Goals as goal

pub returns : goal.returns
returns c items views balanced n once =
    let all = balanced.weights (λ k. cond (k == n) 1 0) in
    record { once = omega arith; waits_once = omega arith; gone = λ taken. omega arith }
