use Rattle.nio_record.specs.Recorded.{HasDrawn}
use Rattle.nio_record.proofs.recorder.draw_all.Given as goal

abbrev pub invariant-loop-number : goal.invariant-loop-number
invariant-loop-number l = HasDrawn l.w l.p l.number
