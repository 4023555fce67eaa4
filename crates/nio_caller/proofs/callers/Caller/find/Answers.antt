use Rattle.nio_caller.proofs.Calls.{acting_after}
use Rattle.nio_caller.proofs.GoingOn as goes_on
use Rattle.nio_caller.proofs.NamedCalls.{met_by, missed}
use Rattle.nio_caller.proofs.callers.Caller.find.Goals as goal

pub invariant_of-self : goal.invariant_of-self
invariant_of-self g c =
    acting_after c.words.ensures (goes_on.find _ _ _ _) c.find.ensures.call c.find.ensures.ready c.self.invariant

pub returns-then-not-has_selector-clause-call : goal.returns-then-not-has_selector-clause-call
returns-then-not-has_selector-clause-call g c =
    missed _ _ c.if-not-has_selector.ensures.call

pub returns-clause-call : goal.returns-clause-call
returns-clause-call g c =
    met_by c.words.ensures _ _ _ c.if-not-has_selector.ensures.call c.self.view_is c.find.ensures.call
