use Rattle.nio_serve.proofs.Carrying.{passes_read}
use Rattle.nio_serve.proofs.Ways.{members}
use Rattle.nio_serve.proofs.link.read_told.Goals as goal

pub returns-in_err-read_all-clause-passes : goal.returns-in_err-read_all-clause-passes
returns-in_err-read_all-clause-passes g c =
    let did = c.read_all.ensures in
    passes_read (members g.W.Polls g.W.Way) c.args.course.source c.args.course.sink _ _ _ _ c.requires.apart did.work did.source
    did.sink
    did.stands did.write

pub returns-clause-passes : goal.returns-clause-passes
returns-clause-passes g c =
    let did = c.read_all.ensures in
    passes_read (members g.W.Polls g.W.Way) c.args.course.source c.args.course.sink _ _ _ _ c.requires.apart did.work did.source
    did.sink
    did.stands did.write
