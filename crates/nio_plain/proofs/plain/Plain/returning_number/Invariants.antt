use Rattle.std.proofs.Common.{◌≡◌, ℕ, ◌<◌, false}
use Rattle.nio_plain.specs.PlainState.{limits_of, rules_of, state_of}
use Rattle.nio_plain.specs.Seq.Opening.{number_comes_back}
use Rattle.nio_plain.proofs.plain.Plain.returning_number.Given as goal

abbrev pub invariant-loop-number : goal.invariant-loop-number
invariant-loop-number l =
    (k : ℕ) → k < l.number
    → number_comes_back (rules_of l.self) (limits_of l.self) (state_of l.self).shared l.kind k ≡ false
