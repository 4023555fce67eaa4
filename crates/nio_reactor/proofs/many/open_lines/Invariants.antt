use Rattle.std.proofs.Common.{◌≡◌, [], All, length, map}
use Rattle.nio_reactor.proofs.many.open_lines.Given as goal

abbrev pub invariant-loop : goal.invariant-loop
invariant-loop g l = record {
  entries : length l.entries.items ≡ l.counter;
  exits : length l.exits.items ≡ l.counter;
  lines : map (λ e. e.line) l.entries.items ≡ map (λ e. e.line) l.exits.items;
  sent : All (λ e. e.carried ≡ []) l.entries.items;
  received : All (λ e. e.carried ≡ []) l.exits.items;
}
