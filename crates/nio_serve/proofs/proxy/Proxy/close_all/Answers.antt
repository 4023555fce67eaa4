use Rattle.nio_serve.proofs.Promise.{all_vacant}
use Rattle.nio_serve.proofs.proxy.Proxy.close_all.Goals as goal

pub returns-clause-vacant : goal.returns-clause-vacant
returns-clause-vacant g c =
    all_vacant (g.W.Way.link c.args.net.now) (g.W.Way.place c.args.net.now) (g.W.Way.place c.close_all.new.net)
    (g.W.Way.place c.close_listener.new.net) c.args.self.now.connections c.requires.served
    c.close_all.ensures.quiet.places c.close_listener.ensures.quiet.places c.close_all.ensures.closed
    c.close_listener.ensures.vacant
