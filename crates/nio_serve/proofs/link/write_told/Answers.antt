use Rattle.nio_serve.proofs.Carrying.{passes_write}
use Rattle.nio_serve.proofs.Ways.{members}
use Rattle.nio_serve.proofs.link.write_told.Goals as goal

pub returns-then-course-clause-passes : goal.returns-then-course-clause-passes
returns-then-course-clause-passes g c =
    let wrote = c.write_all.ensures in
    passes_write (members g.W.Polls g.W.Way) c.args.course.source c.args.course.sink _ _ _ _ c.requires.apart wrote.work wrote.sink
    wrote.source wrote.stands wrote.shut wrote.read
