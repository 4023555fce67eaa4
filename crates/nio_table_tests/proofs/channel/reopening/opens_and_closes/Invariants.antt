use Rattle.nio_channel.specs.Idle.{AreIdle}
use Rattle.nio_table_tests.proofs.channel.reopening.opens_and_closes.Given as goal

abbrev pub invariant-loop-number : goal.invariant-loop-number
invariant-loop-number l = AreIdle l.w l.p

abbrev pub invariant-loop-number-2 : goal.invariant-loop-number-2
invariant-loop-number-2 l = AreIdle l.w l.p
