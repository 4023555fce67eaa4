use Rattle.std.proofs.Common.{◌≡◌, ◌++◌}
use Rattle.nio_load.specs.Generator.{lines_below, number_after, round_lines, text_of}
use Rattle.nio_load.proofs.generator.push_rounds.Given as goal

abbrev pub invariant-loop-round : goal.invariant-loop-round
invariant-loop-round l =
    (l.number ≡ number_after l.round)
    × (l.text.items ≡ l.initial.text.items ++ text_of (lines_below l.round round_lines))
