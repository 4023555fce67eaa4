use Rattle.std.proofs.Common.{◌-◌, vec_len}
use Rattle.nio_script.proofs.Reading.{HasRead}
use Rattle.nio_script.proofs.input.read_input.Given as goal

abbrev pub invariant-loop-count : goal.invariant-loop-count
invariant-loop-count g l = HasRead g.S.Source l.initial.source l.source l.input.items

abbrev pub decreases-loop-count : goal.decreases-loop-count
decreases-loop-count g l = 16777217 - vec_len l.input
