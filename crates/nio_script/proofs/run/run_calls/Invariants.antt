use Rattle.std.proofs.Common.{◌+◌, drop}
use Rattle.nio_script.proofs.Running.{IsRunning}
use Rattle.nio_script.proofs.run.run_calls.Given as goal

abbrev pub invariant-loop-index : goal.invariant-loop-index
invariant-loop-index g l =
    IsRunning g.K.Sink g.Y.System l.initial.output l.output l.initial.system l.system l.kept.items (l.index + 1)
    (drop l.index l.calls) l.calls
