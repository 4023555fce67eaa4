use Rattle.nio_caller.proofs.Calls.{acting_after}
use Rattle.nio_caller.proofs.GoingOn as goes_on
use Rattle.nio_caller.proofs.callers.Caller.open_channel.Goals as goal

pub invariant_of-self : goal.invariant_of-self
invariant_of-self g c =
    acting_after c.words.ensures (goes_on.open_channel _ _) c.open_channel.ensures.call c.open_channel.ensures.ready c.self.invariant
