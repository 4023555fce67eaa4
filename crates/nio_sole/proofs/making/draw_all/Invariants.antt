use Rattle.nio_sole.specs.Drawn.{HasDrawn}
use Rattle.nio_sole.proofs.making.draw_all.Given as goal

abbrev pub invariant-loop-number : goal.invariant-loop-number
invariant-loop-number l = HasDrawn l.w l.p l.number
