use Rattle.std.proofs.Common.{◌≡◌, drop}
use mathlib.Core.List.{IsPrefix}
use Rattle.nio_jobs.specs.Handling.{after_round}
use Rattle.nio_jobs.proofs.reporting.report_all.Given as goal

abbrev pub invariant-loop-one : goal.invariant-loop-one
invariant-loop-one g l =
    record {
      after : after_round g.S.Starter l.at (drop l.one-index l.done) ≡ after_round g.S.Starter l.fn.at l.fn.done;
      kept : IsPrefix l.fn.arrived.items l.arrived.items;
    }
