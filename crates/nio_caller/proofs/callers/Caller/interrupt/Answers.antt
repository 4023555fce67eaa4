use Rattle.nio_caller.proofs.Calls.{acting_after}
use Rattle.nio_caller.proofs.GoingOn as goes_on
use Rattle.nio_caller.proofs.callers.Caller.interrupt.Goals as goal

pub invariant_of-self : goal.invariant_of-self
invariant_of-self g c =
    acting_after c.words-2.ensures (goes_on.interrupt _) c.interrupt.ensures.call c.interrupt.ensures.ready c.self.invariant
