use Rattle.std.proofs.Common.{drop}
use Rattle.nio_load.proofs.Tallying.{IsTallying}
use Rattle.nio_load.proofs.summary.tally_calls.Given as goal

abbrev pub invariant-loop-line : goal.invariant-loop-line
invariant-loop-line g l =
    IsTallying g.Y.System l.initial.system l.system l.tally l.line-index (drop l.line-index l.calls) l.calls
