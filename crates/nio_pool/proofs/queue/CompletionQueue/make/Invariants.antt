use Rattle.std.specs.Prelude.{◌≡◌, ◌+◌, ◌≤◌, [], All, vec_len, vec_capacity}
use Rattle.nio_pool.specs.Hands.{hand}
use Rattle.nio_pool.proofs.queue.CompletionQueue.make.Given as goal

abbrev pub ghost-open : goal.ghost-open
ghost-open a = a.parts

abbrev pub invariant-loop : goal.invariant-loop
invariant-loop l = record {
  count : vec_len l.passes + 1 ≡ l.counter;
  capacity : l.parts ≤ vec_capacity l.passes;
  queue : l.first.queue ≡ l.ring.table.shared.table_id;
  parts : l.first.hand.parts + l.counter ≡ l.parts + 1;
  all : l.first.hand ≡ hand l.first.hand.parts l.parts [] [];
  cut : All (λ p. p ≡ record { queue = l.ring.table.shared.table_id; hand = hand 1 l.parts [] [] }) l.passes.items;
}
