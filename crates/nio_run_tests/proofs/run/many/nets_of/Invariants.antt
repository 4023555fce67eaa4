use Rattle.std.proofs.Common.{All}
use Rattle.nio_link.specs.MemoryNet.{shown}
use Rattle.nio_serve.specs.Serving.{IsFresh}
use Rattle.nio_run_tests.proofs.run.many.nets_of.Given as goal

abbrev pub invariant-loop : goal.invariant-loop
invariant-loop l = record {
  fresh : All (λ net. IsFresh (shown net)) l.nets.items;
}
