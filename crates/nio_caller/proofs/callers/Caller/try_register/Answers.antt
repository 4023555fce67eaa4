use Rattle.nio_caller.proofs.Calls.{acting_after}
use Rattle.nio_caller.proofs.GoingOn as goes_on
use Rattle.nio_caller.proofs.NamedCalls.{met, met_by, missed, refuses_call}
use Rattle.nio_caller.proofs.callers.Caller.try_register.Goals as goal

pub invariant_of-self : goal.invariant_of-self
invariant_of-self g c =
    acting_after c.words.ensures (goes_on.try_register _ _ _ _ _) c.try_register.ensures.call c.try_register.ensures.ready c.self.invariant

pub returns-then-not-has_selector-clause-call : goal.returns-then-not-has_selector-clause-call
returns-then-not-has_selector-clause-call g c =
    missed _ _ c.if-not-has_selector.ensures.call

pub returns-then-not-has_channel-clause-call : goal.returns-then-not-has_channel-clause-call
returns-then-not-has_channel-clause-call g c =
    met _ _ _ c.if-not-has_selector.ensures.call (missed _ _ c.if-not-has_channel.ensures.call)

pub returns-clause-call : goal.returns-clause-call
returns-clause-call g c =
    rw c.called.ensures (met _ _ _ c.if-not-has_selector.ensures.call (met_by c.words.ensures _ _ _ c.if-not-has_channel.ensures.call c.self.view_is (refuses_call _ _ c.try_register.ensures.call)))
