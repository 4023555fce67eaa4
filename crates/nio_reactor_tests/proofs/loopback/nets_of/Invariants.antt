use Rattle.std.proofs.Common.{◌≡◌, All, length}
use Rattle.nio_mio.specs.Unasked.{IsUnasked}
use Rattle.nio_reactor_tests.proofs.loopback.nets_of.Given as goal

abbrev pub invariant-loop : goal.invariant-loop
invariant-loop g l = record {
  count : length l.nets.items ≡ l.counter;
  unasked : All IsUnasked l.nets.items;
}
