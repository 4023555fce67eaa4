use Rattle.std.proofs.Common.{take}
use Rattle.nio_audit.specs.Following.{HasJudged}
use Rattle.nio_audit.proofs.auditing.judged.Given as goal

abbrev pub invariant-loop-at : goal.invariant-loop-at
invariant-loop-at l = HasJudged l.judge l.fn.limits (take l.at l.events)
