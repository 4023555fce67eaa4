use Rattle.std.proofs.Common.{◌≤◌}
use Rattle.nio_race.proofs.Adding.{IsAddingStrange}
use Rattle.nio_race.proofs.output.add_strange_lines.Given as goal

abbrev pub invariant-loop-line : goal.invariant-loop-line
invariant-loop-line l = record {
  few : l.made ≤ l.line-index;
  text : IsAddingStrange l.caller l.race l.line-index l.made l.initial.text.items l.text.items;
}
