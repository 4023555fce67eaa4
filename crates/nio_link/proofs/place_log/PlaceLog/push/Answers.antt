use Rattle.std.proofs.Common.{arith}
use Rattle.std.proofs.lemmas.Grind.{common_steps}
use Rattle.nio_link.proofs.Present.{logged_after}
use Rattle.nio_link.proofs.place_log.PlaceLog.push.Goals as goal

pub invariant_of-self : goal.invariant_of-self
invariant_of-self c =
    logged_after c.self.inside.occupants c.set.new.self c.self.inside.changes c.push.new.self c.args.chan c.args.change
    c.self.invariant (rw (← c.self.view_is) at c.requires.alone) (rw (← c.self.view_is) at c.requires.room)
    (grind (arith, common_steps)) (grind (arith, common_steps))
