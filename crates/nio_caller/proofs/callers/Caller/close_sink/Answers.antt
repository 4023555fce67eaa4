use Rattle.nio_caller.proofs.Calls.{acting_unpinned}
use Rattle.nio_caller.proofs.GoingOn as goes_on
use Rattle.nio_caller.proofs.NamedCalls.{met_by, missed}
use Rattle.std.proofs.Common.{sym, ◌∙◌}
use Rattle.std.proofs.lemmas.Bool.{or_right}
use Rattle.nio_pipe.specs.Ends.{is_sealed}
use Rattle.nio_caller.proofs.Took.{finds_by, finds_none, not_missed, or_no}
use Rattle.nio_caller.proofs.callers.Caller.close_sink.Goals as goal

pub invariant_of-self : goal.invariant_of-self
invariant_of-self g c =
    acting_unpinned c.words.ensures ((goes_on.close_channel _ _).spares) c.close.ensures.call c.close.ensures.unpinned c.close.ensures.ready c.self.invariant

pub returns-then-not-has_channel-clause-call : goal.returns-then-not-has_channel-clause-call
returns-then-not-has_channel-clause-call g c =
    missed _ _ (rw c.chan.ensures at c.if-not-has_channel.ensures.call)

pub returns-clause-call : goal.returns-clause-call
returns-clause-call g c =
    met_by c.words.ensures _ _ _ (rw c.chan.ensures at c.if-not-has_channel.ensures.call) c.self.view_is c.close.ensures.call

pub returns-then-not-has_channel-clause-closed : goal.returns-then-not-has_channel-clause-closed
returns-then-not-has_channel-clause-closed g c =
    λ has. absurd (not_missed _ (rw c.chan.ensures at c.if-not-has_channel.ensures.call) has)

pub returns-then-not-has_channel-clause-sealed : goal.returns-then-not-has_channel-clause-sealed
returns-then-not-has_channel-clause-sealed g c =
    λ has. absurd (not_missed _ (rw c.chan.ensures at c.if-not-has_channel.ensures.call) has)

pub returns-then-not-has_channel-clause-seal : goal.returns-then-not-has_channel-clause-seal
returns-then-not-has_channel-clause-seal g c =
    or_no (is_sealed c.args.sink.now) _ (finds_none _ (rw c.chan.ensures at c.if-not-has_channel.ensures.call))

pub returns-clause-seal : goal.returns-clause-seal
returns-clause-seal g c =
    c.close.ensures.seal
    ∙ sym (or_right (is_sealed c.args.sink.now) _
    (finds_by c.words.ensures c.close.new.p _ (rw c.chan.ensures at c.if-not-has_channel.ensures.call) c.self.view_is
    c.close.ensures.call.acts))
