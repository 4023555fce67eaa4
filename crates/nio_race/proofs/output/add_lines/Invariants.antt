use Rattle.nio_race.proofs.Adding.{IsAdding}
use Rattle.nio_race.proofs.output.add_lines.Given as goal

abbrev pub invariant-loop-line : goal.invariant-loop-line
invariant-loop-line l = IsAdding l.caller l.race l.replies l.line-index l.made l.initial.text.items l.text.items
