use Rattle.nio_channel.specs.Idle.{AreIdle}
use Rattle.nio_table_tests.proofs.calls.follow.Given as goal

abbrev pub invariant-loop-at : goal.invariant-loop-at
invariant-loop-at g l = AreIdle l.words l.p
