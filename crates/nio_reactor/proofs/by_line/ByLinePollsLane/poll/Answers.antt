use Rattle.std.proofs.Common.{rules}
use Rattle.nio_reactor.proofs.Listening.{line_told}
use Rattle.nio_reactor.proofs.Seen.{spare_same}
use Rattle.nio_reactor.proofs.by_line.ByLinePollsLane.poll.Goals as goal

pub invariant_of-lane-clause-spare : goal.invariant_of-lane-clause-spare
invariant_of-lane-clause-spare g c =
    spare_same _ _ _ (g.met.N.Net.kept_places _ _ c.poll.ensures.kept) c.args.lane.now.spare

pub invariant_of-lane-in_default-listener_key-clause-spare : goal.invariant_of-lane-in_default-listener_key-clause-spare
invariant_of-lane-in_default-listener_key-clause-spare g c =
    spare_same _ _ _ (g.met.N.Net.kept_places _ _ c.poll-in_default-listener_key.ensures.kept) c.args.lane.now.spare

pub invariant_of-lane-in-End-2-clause-spare : goal.invariant_of-lane-in-End-2-clause-spare
invariant_of-lane-in-End-2-clause-spare g c =
    spare_same _ _ _ (g.met.N.Net.kept_places _ _ c.poll-in-End-2.ensures.kept) c.args.lane.now.spare

pub invariant_of-lane-in-End-2-clause-numbers : goal.invariant_of-lane-in-End-2-clause-numbers
invariant_of-lane-in-End-2-clause-numbers g c = c.hear.ensures.numbers _ c.args.lane.now.numbers

pub invariant_of-lane-in-Nothing-clause-spare : goal.invariant_of-lane-in-Nothing-clause-spare
invariant_of-lane-in-Nothing-clause-spare g c =
    spare_same _ _ _ (g.met.N.Net.kept_places _ _ c.poll-in-Nothing.ensures.kept) c.args.lane.now.spare

pub invariant_of-lane-in-Nothing-clause-numbers : goal.invariant_of-lane-in-Nothing-clause-numbers
invariant_of-lane-in-Nothing-clause-numbers g c = c.hear.ensures.numbers _ c.args.lane.now.numbers

pub invariant_of-lane-then-told_line-clause-spare : goal.invariant_of-lane-then-told_line-clause-spare
invariant_of-lane-then-told_line-clause-spare g c =
    spare_same _ _ _ (g.met.N.Net.kept_places _ _ c.poll-then-told_line.ensures.kept) c.args.lane.now.spare

pub invariant_of-lane-then-told_line-clause-numbers : goal.invariant_of-lane-then-told_line-clause-numbers
invariant_of-lane-then-told_line-clause-numbers g c = c.hear.ensures.numbers _ c.args.lane.now.numbers

pub returns-clause-ready : goal.returns-clause-ready
returns-clause-ready g c = λ chan.
    line_told c.in-Some.index chan c.args.asked.now.keys (g.N.Poller.ready c.args.lane.now.net) c.in-Ok.pairs.items (search rules)
    c.in-Some.ensures
