use Rattle.std.proofs.Common.{vec_len}
use Rattle.nio_sole.proofs.desk.forget_selections.Given as goal

abbrev pub decreases-loop-place : goal.decreases-loop-place
decreases-loop-place l = vec_len l.selections
