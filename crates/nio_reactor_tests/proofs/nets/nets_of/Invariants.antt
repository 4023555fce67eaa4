use Rattle.std.proofs.Common.{◌≡◌, All, length}
use Rattle.nio_link.specs.MemoryNet.{shown}
use Rattle.nio_serve.specs.Serving.{IsFresh}
use Rattle.nio_reactor_tests.proofs.nets.nets_of.Given as goal

abbrev pub invariant-loop : goal.invariant-loop
invariant-loop l = record {
  count : length l.nets.items ≡ l.counter;
  fresh : All (λ net. IsFresh (shown net.net)) l.nets.items;
}
