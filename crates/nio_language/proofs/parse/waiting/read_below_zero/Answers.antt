use Rattle.std.proofs.Common.{◌≡◌, pos, neg_ℤ, to_z, of_z, w64, arith}
use Rattle.std.proofs.lemmas.Int.{ints}
use Rattle.nio_language.proofs.Times.{no_time, minus_zero, time_before}
use Rattle.nio_language.proofs.parse.waiting.read_below_zero.Goals as goal

pub returns-in_err-before : goal.returns-in_err-before
returns-in_err-before c =
    rw c.from_residual.ensures (no_time c.args.digits.now c.in_err-before.ensures)

pub returns-then-before-eq0 : goal.returns-then-before-eq0
returns-then-before-eq0 c =
    minus_zero c.args.digits.now c.in_ok-before.before c.in_ok-before.ensures c.if-before-eq0.true

pub returns-else-before-eq0 : goal.returns-else-before-eq0
returns-else-before-eq0 c =
    let value : to_z w64 (of_z w64 c.negated.result) ≡ neg_ℤ (pos c.in_ok-before.before) = omega
    (arith, ints, c.negated.ensures) in
    rw value (time_before c.args.digits.now c.in_ok-before.before c.in_ok-before.ensures c.if-before-eq0.false)
