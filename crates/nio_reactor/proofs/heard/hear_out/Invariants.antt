use Rattle.std.proofs.Common.{◌≡◌, ℕ, List, Option, ◌++◌, map}
use Rattle.nio_reactor.specs.Dealing.{number_of}
use Rattle.nio_reactor.specs.Receiving.{in_hand}
use Rattle.nio_reactor.proofs.heard.hear_out.Given as goal

abbrev pub invariant-loop : goal.invariant-loop
invariant-loop g l = record {
  line : l.line.line ≡ l.fn.line.line;
  numbers : (used : List (Option ℕ)) → map number_of l.fn.line.carried ≡ used ++ in_hand l.fn.heard
      → map number_of l.line.carried ≡ used ++ l.gone;
}
