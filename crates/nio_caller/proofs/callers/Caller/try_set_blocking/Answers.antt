use Rattle.nio_caller.proofs.Calls.{acting_after}
use Rattle.nio_caller.proofs.GoingOn as goes_on
use Rattle.nio_caller.proofs.NamedCalls.{met_by, missed, refuses_call}
use Rattle.nio_caller.proofs.callers.Caller.try_set_blocking.Goals as goal

pub invariant_of-self : goal.invariant_of-self
invariant_of-self g c =
    acting_after c.words.ensures (goes_on.try_set_blocking _ _ _) c.try_set_blocking.ensures.call c.try_set_blocking.ensures.ready c.self.invariant

pub returns-then-not-has_channel-clause-call : goal.returns-then-not-has_channel-clause-call
returns-then-not-has_channel-clause-call g c =
    missed _ _ c.if-not-has_channel.ensures.call

pub returns-clause-call : goal.returns-clause-call
returns-clause-call g c =
    rw c.called.ensures (met_by c.words.ensures _ _ _ c.if-not-has_channel.ensures.call c.self.view_is (refuses_call _ _ c.try_set_blocking.ensures.call))
