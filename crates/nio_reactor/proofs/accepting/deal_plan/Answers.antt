use Rattle.nio_reactor.proofs.Asked.{has_accepted}
use Rattle.nio_reactor.proofs.Ending.{has_sent}
use Rattle.nio_reactor.proofs.Nets.{members}
use Rattle.nio_reactor.proofs.accepting.deal_plan.Goals as goal

pub returns-clause-accepted : goal.returns-clause-accepted
returns-clause-accepted g c =
    has_accepted _ c.args.plan c.args.net.now c.accept_seated-outcome.new.net c.accept_seated-outcome.new.number
    c.accept_seated-outcome.ensures.within c.accept_seated-outcome.ensures.accepted
    c.accept_seated-outcome.ensures.leaves c.accept_seated-outcome.result c.accept_seated-outcome.ensures.all
    c.accept_seated-outcome.ensures.cause

pub returns-clause-sent : goal.returns-clause-sent
returns-clause-sent g c =
    has_sent (members g.N.Poller g.N.Net)
    c.accept_seated-outcome.new.number c.args.net.now c.accept_seated-outcome.new.net c.args.lines.now
    c.accept_seated-outcome.new.lines c.end_all.new.lines c.accept_seated-outcome.ensures.accepted
    c.accept_seated-outcome.ensures.dealt c.end_all.ensures
