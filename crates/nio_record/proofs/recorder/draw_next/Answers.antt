use Rattle.nio_record.proofs.Drawing.{next_has_drawn}
use Rattle.nio_record.proofs.recorder.draw_next.Goals as goal

pub returns : goal.returns
returns c =
    next_has_drawn c.args.w.now c.args.p.now c.draw_bit-found.new.p c.args.number c.draw_bit-found.result
    c.requires.drawn c.draw_bit-found.ensures
