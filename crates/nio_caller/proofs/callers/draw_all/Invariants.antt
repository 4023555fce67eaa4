use Rattle.nio_caller.specs.Callers.{HasDrawn}
use Rattle.nio_caller.proofs.callers.draw_all.Given as goal

abbrev pub invariant-loop-number : goal.invariant-loop-number
invariant-loop-number l = HasDrawn l.w l.p l.number
