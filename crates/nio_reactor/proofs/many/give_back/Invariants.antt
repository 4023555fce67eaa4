use Rattle.std.proofs.Common.{◌≡◌, ◌+◌, ◌++◌, drop, length, map, vec_capacity}
use Rattle.nio_reactor.proofs.Gathered.{IsGathering}
use Rattle.nio_reactor.proofs.Received.{SettledBelow}
use Rattle.nio_reactor.proofs.many.give_back.Given as goal

abbrev pub invariant-loop-number : goal.invariant-loop-number
invariant-loop-number g l = record {
  nets : l.more.items ++ map (λ x. x.lane.net) l.workers.items ≡ map (λ x. x.lane.net) l.fn.workers.items;
  count : length l.more.items ≡ l.number;
  rest : length l.workers.items + l.number ≡ length l.fn.workers.items;
  lines : length l.entries.items ≡ length l.workers.items;
  room : vec_capacity l.more ≡ vec_capacity l.fn.more;
  gathering : IsGathering (λ x. x.pass) l.words l.fn.pass l.pass l.fn.workers.items l.workers.items;
  workers_are : l.workers.items ≡ drop l.number l.fn.workers.items;
  entries_are : l.entries.items ≡ drop l.number l.fn.entries.items;
  settled : SettledBelow (λ x. x.lane.line) l.number l.fn.workers.items l.fn.entries.items;
}
