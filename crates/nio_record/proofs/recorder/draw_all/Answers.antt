use Rattle.nio_record.proofs.Drawing.{first_has_drawn}
use Rattle.nio_record.proofs.recorder.draw_all.Goals as goal

pub loop-number-init : goal.loop-number-init
loop-number-init c = first_has_drawn c.args.w.now c.args.p.now c.requires
