use Rattle.nio_caller.proofs.Calls.{acting_after}
use Rattle.nio_caller.proofs.GoingOn as goes_on
use Rattle.nio_caller.proofs.NamedCalls.{met_by, missed}
use Rattle.nio_caller.proofs.callers.Caller.is_registered.Goals as goal

pub invariant_of-self : goal.invariant_of-self
invariant_of-self g c =
    acting_after c.words.ensures (goes_on.is_registered _ _) c.is_registered.ensures.call c.is_registered.ensures.ready c.self.invariant

pub returns-then-not-has_channel : goal.returns-then-not-has_channel
returns-then-not-has_channel g c =
    record { call = missed _ _ c.if-not-has_channel.ensures.call }

pub returns : goal.returns
returns g c =
    record { call = met_by c.words.ensures _ _ _ c.if-not-has_channel.ensures.call c.self.view_is c.is_registered.ensures.call }
