use Rattle.std.proofs.Common.{None, refl, subst}
use Rattle.std.specs.Bool.{then_some}
use Rattle.nio_history.specs.PassViews.{HasChannel, HasKey}
use Rattle.nio_poller.proofs.Trying.{then_nothing}
use Rattle.nio_steps.proofs.WaitingLaws.{then_call}
use Rattle.nio_words.specs.Views.{view}
use Rattle.nio_words.specs.declared.words.Words.{Words}
use Rattle.nio_caller.specs.NamedCalls.{OnlyAnswers}
use Rattle.nio_caller.specs.Several.{UnselectsFound}
use Rattle.nio_caller.proofs.Calls.{acting_after, acts_at, call_at, still_has, unpinned_at}
use Rattle.nio_caller.proofs.GoingOn as goes_on
use Rattle.nio_caller.proofs.Finding.{taken_has}
use Rattle.nio_caller.proofs.NamedCalls.{met, met_by, missed, seen_at}
use Rattle.nio_caller.proofs.callers.Caller.take_selected.Goals as goal

pub returns-then-not-has_selector-clause-call : goal.returns-then-not-has_selector-clause-call
returns-then-not-has_selector-clause-call g c =
    missed _ _ c.if-not-has_selector.ensures.call

pub returns-then-not-has_channel-clause-call : goal.returns-then-not-has_channel-clause-call
returns-then-not-has_channel-clause-call g c =
    met _ _ _ c.if-not-has_selector.ensures.call (missed _ _ c.if-not-has_channel.ensures.call)

pub unselect-out-requires-clause-unpinned : goal.unselect-out-requires-clause-unpinned
unselect-out-requires-clause-unpinned g c =
    unpinned_at c.words-in-Some.ensures
    (acting_after c.words.ensures (goes_on.key_for _ _) c.key_for.ensures.call c.key_for.ensures.ready
    c.self.invariant)

pub invariant_of-self : goal.invariant_of-self
invariant_of-self g c =
    acting_after c.words-in-Some.ensures (goes_on.unselect _) c.unselect-out.ensures.call c.unselect-out.ensures.ready
    (acting_after c.words.ensures (goes_on.key_for _ _) c.key_for.ensures.call c.key_for.ensures.ready
    c.self.invariant)

pub invariant_of-self-in-None : goal.invariant_of-self-in-None
invariant_of-self-in-None g c =
    acting_after c.words.ensures (goes_on.key_for _ _) c.key_for.ensures.call c.key_for.ensures.ready c.self.invariant

pub returns-in-Some-clause-call : goal.returns-in-Some-clause-call
returns-in-Some-clause-call g c =
    rw c.then_some.ensures
    (met _ _ _ c.if-not-has_selector.ensures.call
    (met_by refl _ _ _ c.if-not-has_channel.ensures.call c.self.view_is
    (then_call {Second = UnselectsFound} {answer = then_some c.unselect-out.result c.in-Some.key}
    (call_at c.words.ensures c.self.inside.pass c.key_for.new.p c.in-Some.ensures.call)
    (then_nothing (λ out. OnlyAnswers (then_some out c.in-Some.key)) (then_some c.unselect-out.result c.in-Some.key)
    (call_at c.words-in-Some.ensures c.key_for.new.p c.unselect-out.new.p c.unselect-out.ensures.call) (refl, refl)))))

pub returns-in-Some-clause-channel : goal.returns-in-Some-clause-channel
returns-in-Some-clause-channel g c =
    rw c.then_some.ensures
    (taken_has (λ _. HasChannel (view (g.T.Table.table c.self.inside.table) c.unselect-out.new.p) c.args.chan)
    c.unselect-out.result c.in-Some.key
    ((still_has (acts_at c.words-in-Some.ensures c.key_for.new.p c.unselect-out.new.p c.unselect-out.ensures.call.acts)).channels _
    ((still_has (acts_at c.words.ensures c.self.inside.pass c.key_for.new.p c.key_for.ensures.call.acts)).channels _
    (seen_at refl (λ v. HasChannel v c.args.chan) c.self.view_is (c.if-not-has_channel.ensures.has refl)))))

pub returns-in-Some-clause-key : goal.returns-in-Some-clause-key
returns-in-Some-clause-key g c =
    rw c.then_some.ensures
    (taken_has (HasKey (view (g.T.Table.table c.self.inside.table) c.unselect-out.new.p)) c.unselect-out.result c.in-Some.key
    ((still_has (acts_at c.words-in-Some.ensures c.key_for.new.p c.unselect-out.new.p c.unselect-out.ensures.call.acts)).keys _
    (subst (λ (w : Words). HasKey (view w c.key_for.new.p) c.in-Some.key) c.words.ensures c.in-Some.ensures.found)))

pub returns-in-None-clause-call : goal.returns-in-None-clause-call
returns-in-None-clause-call g c =
    met _ _ _ c.if-not-has_selector.ensures.call
    (met_by c.words.ensures _ _ _ c.if-not-has_channel.ensures.call c.self.view_is
    (then_nothing UnselectsFound None c.in-None.ensures.call (refl, refl)))
