use Rattle.nio_caller.proofs.NamedCalls.{calls_refused, met, missed}
use Rattle.nio_caller.proofs.callers.Caller.register_non_blocking.Goals as goal

pub returns-then-not-has_selector-clause-call : goal.returns-then-not-has_selector-clause-call
returns-then-not-has_selector-clause-call g c =
    missed _ _ c.if-not-has_selector.ensures.call

pub returns-then-not-has_channel-clause-call : goal.returns-then-not-has_channel-clause-call
returns-then-not-has_channel-clause-call g c =
    met _ _ _ c.if-not-has_selector.ensures.call (missed _ _ c.if-not-has_channel.ensures.call)

pub returns-clause-call : goal.returns-clause-call
returns-clause-call g c =
    rw c.called.ensures (met _ _ _ c.if-not-has_selector.ensures.call (met _ _ _ c.if-not-has_channel.ensures.call (calls_refused _ _ c.register_found.ensures.call)))
