use Rattle.std.proofs.Common.{All}
use Rattle.nio_mio.specs.Unasked.{IsUnasked}
use Rattle.nio_run_tests.proofs.run.loopback.nets_of.Given as goal

abbrev pub invariant-loop : goal.invariant-loop
invariant-loop g l = record {
  unasked : All IsUnasked l.nets.items;
}
