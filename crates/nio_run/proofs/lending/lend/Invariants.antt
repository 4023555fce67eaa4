use Rattle.std.proofs.Common.{◌≡◌, ◌++◌, length, vec_capacity}
use Rattle.nio_run.proofs.lending.lend.Given as goal

abbrev pub invariant-loop : goal.invariant-loop
invariant-loop g l = record {
  nets : l.lent.items ++ l.nets.items ≡ l.fn.nets.items;
  count : length l.lent.items ≡ l.counter;
  room : vec_capacity l.nets ≡ vec_capacity l.fn.nets;
  spare : vec_capacity l.lent ≡ vec_capacity l.initial.lent;
}
