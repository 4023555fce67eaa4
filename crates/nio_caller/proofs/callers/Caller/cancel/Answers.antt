use Rattle.nio_caller.proofs.Calls.{acting_after}
use Rattle.nio_caller.proofs.GoingOn as goes_on
use Rattle.nio_caller.proofs.NamedCalls.{does_call, met_by, missed}
use Rattle.nio_caller.proofs.callers.Caller.cancel.Goals as goal

pub invariant_of-self : goal.invariant_of-self
invariant_of-self g c =
    acting_after c.words.ensures (goes_on.cancel _) c.cancel.ensures.call c.cancel.ensures.ready c.self.invariant

pub returns-then-not-has_key : goal.returns-then-not-has_key
returns-then-not-has_key g c =
    record { call = missed _ _ c.if-not-has_key.ensures.call }

pub returns : goal.returns
returns g c =
    record { call = met_by c.words.ensures _ _ _ c.if-not-has_key.ensures.call c.self.view_is (does_call _ c.cancel.ensures.call) }
