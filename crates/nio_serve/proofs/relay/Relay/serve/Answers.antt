use Rattle.nio_serve.proofs.Working.{works_quiet}
use Rattle.nio_serve.proofs.Ways.{members}
use Rattle.nio_serve.proofs.relay.Relay.serve.Goals as goal

pub returns-clause-work : goal.returns-clause-work
returns-clause-work g c =
    works_quiet (members g.W.Polls g.W.Way) c.args.told.links.client c.args.told.links.target c.args.net.now
    c.advance-served.new.net c.settle.new.net c.advance-served.ensures.work c.settle.ensures.quiet
    c.settle.ensures.ready c.settle.ensures.places
