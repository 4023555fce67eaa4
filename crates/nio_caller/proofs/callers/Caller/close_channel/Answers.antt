use Rattle.nio_caller.proofs.Calls.{acting_after}
use Rattle.nio_caller.proofs.GoingOn as goes_on
use Rattle.nio_caller.proofs.NamedCalls.{met_by, missed}
use Rattle.nio_history.specs.OwnEvents.{closes}
use Rattle.nio_caller.proofs.Took.{no_close, not_missed, took_by, took_none}
use Rattle.nio_caller.proofs.callers.Caller.close_channel.Goals as goal

pub invariant_of-self : goal.invariant_of-self
invariant_of-self g c =
    acting_after c.words.ensures (goes_on.close_channel _ _) c.close_channel.ensures.call c.close_channel.ensures.ready c.self.invariant

pub returns-then-not-has_channel-clause-call : goal.returns-then-not-has_channel-clause-call
returns-then-not-has_channel-clause-call g c =
    missed _ _ c.if-not-has_channel.ensures.call

pub returns-clause-call : goal.returns-clause-call
returns-clause-call g c =
    met_by c.words.ensures _ _ _ c.if-not-has_channel.ensures.call c.self.view_is c.close_channel.ensures.call

pub returns-then-not-has_channel-clause-took : goal.returns-then-not-has_channel-clause-took
returns-then-not-has_channel-clause-took g c =
    took_none (closes c.args.chan) (no_close c.args.chan) c.args.chan c.if-not-has_channel.ensures.call

pub returns-then-not-has_channel-clause-closed : goal.returns-then-not-has_channel-clause-closed
returns-then-not-has_channel-clause-closed g c =
    λ has. absurd (not_missed _ c.if-not-has_channel.ensures.call has)

pub returns-clause-took : goal.returns-clause-took
returns-clause-took g c =
    took_by (closes c.args.chan) (no_close c.args.chan) c.words.ensures c.close_channel.new.p c.close_channel.result c.args.chan c.if-not-has_channel.ensures.call c.self.view_is c.close_channel.ensures.call.acts c.close_channel.ensures.took
