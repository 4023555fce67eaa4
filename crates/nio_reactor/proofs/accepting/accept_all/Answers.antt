use Rattle.std.proofs.Common.{◌≡◌, length, arith}
use Rattle.std.proofs.lemmas.Grind.{common_steps}
use Rattle.nio_reactor.proofs.Lists.{slice_back}
use Rattle.nio_reactor.specs.Accepting.{HasSent}
use Rattle.nio_reactor.proofs.accepting.accept_all.Goals as goal

pub returns-clause-sent : goal.returns-clause-sent
returns-clause-sent g c =
    let len_is : c.args.outgoing.now.lines.len ≡ length c.args.outgoing.now.lines.items
    = grind (arith, common_steps, c.as_mut_slice.ensures.len, c.as_mut_slice.ensures.value) in
    slice_back c.args.outgoing.now.lines.items _ c.deal_plan.new.lines c.args.outgoing.now.lines.len
    (HasSent (g.N.Net.accepted c.args.net.now) (g.N.Net.accepted c.deal_plan.new.net)) c.as_mut_slice.ensures.value
    len_is c.deal_plan.ensures.sent.lines c.deal_plan.ensures.sent
