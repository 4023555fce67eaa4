use Rattle.nio_channel.specs.Idle.{AreIdle}
use Rattle.nio_table_tests.proofs.calls.open_streams.Given as goal

abbrev pub invariant-loop : goal.invariant-loop
invariant-loop l = AreIdle l.w l.p
