use Rattle.std.proofs.Common.{refl}
use Rattle.nio_reactor.proofs.Dealing.{deals_at}
use Rattle.nio_reactor.proofs.accepting.deal.Goals as goal

pub returns : goal.returns
returns g c =
    deals_at c.args.lines.now c.number.result c.args.handed.number c.index-lines-worker.result _ _ c.requires.some
    c.send.ensures refl c.number.ensures
