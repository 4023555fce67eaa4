use Rattle.std.proofs.Common.{All}
use Rattle.nio_link.specs.MemoryNet.{shown}
use Rattle.nio_serve.specs.Serving.{IsFresh}
use Rattle.nio_memory_proxy.proofs.nets_of.Given as goal

abbrev pub invariant-loop : goal.invariant-loop
invariant-loop l = record {
  fresh : All (λ net. IsFresh (shown net)) l.nets.items;
}
