use Rattle.nio_caller.proofs.Calls.{acting_after}
use Rattle.nio_caller.proofs.GoingOn as goes_on
use Rattle.nio_caller.proofs.NamedCalls.{met_by, missed}
use Rattle.nio_caller.proofs.Took.{not_missed}
use Rattle.nio_caller.proofs.callers.Caller.is_open.Goals as goal

pub invariant_of-self : goal.invariant_of-self
invariant_of-self g c =
    acting_after c.words.ensures (goes_on.is_open _) c.is_open.ensures.call c.is_open.ensures.ready c.self.invariant

pub returns-then-not-has_channel-clause-call : goal.returns-then-not-has_channel-clause-call
returns-then-not-has_channel-clause-call g c =
    missed _ _ c.if-not-has_channel.ensures.call

pub returns-clause-call : goal.returns-clause-call
returns-clause-call g c =
    met_by c.words.ensures _ _ _ c.if-not-has_channel.ensures.call c.self.view_is c.is_open.ensures.call

pub returns-then-not-has_channel-clause-closed : goal.returns-then-not-has_channel-clause-closed
returns-then-not-has_channel-clause-closed g c =
    λ not_open has. absurd (not_missed _ c.if-not-has_channel.ensures.call has)
