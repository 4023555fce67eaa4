use Rattle.std.proofs.Common.{◌≡◌, ◌≤◌, ◌+◌, ◌++◌, length, vec_capacity}
use Rattle.nio_run.proofs.lending.give_back.Given as goal

abbrev pub invariant-loop : goal.invariant-loop
invariant-loop g l = record {
  nets : l.lent.items ++ l.nets.items ≡ l.fn.lent.items ++ l.fn.nets.items;
  count : length l.lent.items + l.counter ≡ length l.fn.lent.items;
  room : length l.lent.items + length l.nets.items ≤ vec_capacity l.nets;
}
