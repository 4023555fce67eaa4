use Rattle.nio_channel.specs.Idle.{AreIdle}
use Rattle.nio_table_tests.proofs.pipe.the_numbers_of_a_pipe_come_back.Given as goal

abbrev pub invariant-loop-chan : goal.invariant-loop-chan
invariant-loop-chan g l = AreIdle l.words l.p
