use Rattle.std.proofs.Common.{map}
use Rattle.nio_script.specs.HistoryCall.{entry_of}
use Rattle.nio_script.proofs.Checking.{IsFollowed}
use Rattle.nio_script.proofs.check.follow_calls.Given as goal

abbrev pub invariant-loop-index : goal.invariant-loop-index
invariant-loop-index g l = record {
  followed : IsFollowed (g.Y.System.rules l.initial.system) (g.Y.System.limits l.initial.system)
      (map entry_of l.calls) l.index (g.Y.System.state l.system);
  kept : g.Y.System.kept l.initial.system l.system;
}
