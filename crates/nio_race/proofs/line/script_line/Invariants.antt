use Rattle.nio_race.proofs.Retried.{IsTrying}
use Rattle.nio_race.proofs.line.script_line.Given as goal

abbrev pub invariant-loop : goal.invariant-loop
invariant-loop g l = IsTrying l.w l.fn.d l.d l.me l.call
