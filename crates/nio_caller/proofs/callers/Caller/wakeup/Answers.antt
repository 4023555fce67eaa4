use Rattle.nio_caller.proofs.Calls.{acting_after}
use Rattle.nio_caller.proofs.GoingOn as goes_on
use Rattle.nio_caller.proofs.NamedCalls.{gives_call, met_by, missed}
use Rattle.nio_caller.proofs.callers.Caller.wakeup.Goals as goal

pub invariant_of-self : goal.invariant_of-self
invariant_of-self g c =
    acting_after c.words.ensures (goes_on.wakeup _) c.wakeup-pending.ensures.call c.wakeup-pending.ensures.ready c.self.invariant

pub returns-then-not-has_selector : goal.returns-then-not-has_selector
returns-then-not-has_selector g c =
    record { call = missed _ _ c.if-not-has_selector.ensures.call }

pub returns : goal.returns
returns g c =
    record {
      call = met_by c.words.ensures _ _ _ c.if-not-has_selector.ensures.call c.self.view_is
          (gives_call _ _ c.wakeup-pending.ensures.call);
    }
