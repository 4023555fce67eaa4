use Rattle.nio_link.proofs.place_log.PlaceLog.standing.Goals as goal

pub returns : goal.returns
returns c = rw (← c.self.view_is, c.standing_of.ensures, c.at.ensures) (c.self.invariant.held c.args.chan)
