use Rattle.nio_caller.proofs.Calls.{acting_after}
use Rattle.nio_caller.proofs.GoingOn as goes_on
use Rattle.nio_caller.proofs.callers.Caller.interrupted.Goals as goal

pub invariant_of-self : goal.invariant_of-self
invariant_of-self g c =
    acting_after c.words.ensures goes_on.interrupted c.interrupted.ensures.call c.interrupted.ensures.ready c.self.invariant
