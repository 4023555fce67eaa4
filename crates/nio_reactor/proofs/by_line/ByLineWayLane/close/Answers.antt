use Rattle.nio_reactor.proofs.Listening.{close_spare}
use Rattle.nio_reactor.specs.declared.door.Door.TheVariants.{Closed}
use Rattle.nio_reactor.proofs.by_line.ByLineWayLane.close.Goals as goal

pub invariant_of-lane-clause-spare : goal.invariant_of-lane-clause-spare
invariant_of-lane-clause-spare g c = close_spare _ _ _ c.args.lane.now.spare

pub invariant_of-lane-clause-told : goal.invariant_of-lane-clause-told
invariant_of-lane-clause-told g c = c.without_listener-lane.ensures.told (Closed c.in-Open.at)
