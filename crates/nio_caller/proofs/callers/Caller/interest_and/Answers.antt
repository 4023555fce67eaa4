use Rattle.nio_caller.proofs.Calls.{acting_after}
use Rattle.nio_caller.proofs.GoingOn as goes_on
use Rattle.nio_caller.proofs.NamedCalls.{met_by, missed, refuses_call}
use Rattle.nio_caller.proofs.callers.Caller.interest_and.Goals as goal

pub invariant_of-self : goal.invariant_of-self
invariant_of-self g c =
    acting_after c.words.ensures (goes_on.interest_and _ _) c.interest_and.ensures.call c.interest_and.ensures.ready c.self.invariant

pub returns-then-not-has_key : goal.returns-then-not-has_key
returns-then-not-has_key g c =
    record { call = missed _ _ c.if-not-has_key.ensures.call }

pub returns : goal.returns
returns g c =
    record { call = rw c.called.ensures (met_by c.words.ensures _ _ _ c.if-not-has_key.ensures.call c.self.view_is (refuses_call _ _ c.interest_and.ensures.call)) }
