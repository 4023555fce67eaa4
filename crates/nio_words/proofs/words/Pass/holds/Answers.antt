use Rattle.std.proofs.Common.{ℕ, ◌≡◌, ◌^◌, ◌<◌, subst, arith}
use Rattle.std.specs.Int.{bit_at}
use Rattle.std.proofs.lemmas.Bool.{ltb-true}
use Rattle.std.proofs.lemmas.Nat.Bits.{bit_at_above}
use Rattle.nio_words.specs.Rule.{HasBit}
use Rattle.nio_words.proofs.words.Pass.holds.Goals as goal

pub returns-else-number-lt64 : goal.returns-else-number-lt64
returns-else-number-lt64 c = (
  λ is. absurd (omega (arith, ltb-true c.args.number.0 64 is)),
  λ has.
      let there : HasBit c.args.self.now.numbers c.args.number.0 = subst
      (λ (k : ℕ). HasBit k c.args.number.0) c.args.self.now.numbers_are has in
      let fits : c.args.self.now.numbers < 2 ^ 64 = omega arith in
      let none : bit_at c.args.self.now.numbers c.args.number.0
      ≡ 0 = bit_at_above c.args.self.now.numbers 64 c.args.number.0 fits c.if-number-lt64.false in
      absurd (omega arith),
)
