use Rattle.nio_serve.proofs.Working.{quiet_close, quiet_then}
use Rattle.nio_serve.proofs.Ways.{members}
use Rattle.nio_serve.proofs.relay.close_links.Goals as goal

pub returns-clause-quiet : goal.returns-clause-quiet
returns-clause-quiet g c =
    let n = members g.W.Polls g.W.Way in
    let once = c.close.ensures in
    let twice = c.close-2.ensures in
    quiet_then n _ _ _ (quiet_close n c.args.links.client _ _ once) (quiet_close n c.args.links.target _ _ twice)
