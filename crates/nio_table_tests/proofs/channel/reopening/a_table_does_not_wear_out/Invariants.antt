use Rattle.nio_channel.specs.Idle.{AreIdle}
use Rattle.nio_table_tests.proofs.channel.reopening.a_table_does_not_wear_out.Given as goal

abbrev pub invariant-loop-serial : goal.invariant-loop-serial
invariant-loop-serial g l = AreIdle l.words l.p
