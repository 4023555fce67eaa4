use Rattle.nio_history.specs.PassViews.{HasChannel, HasSelector}
use Rattle.nio_steps.proofs.WaitingLaws.{then_call}
use Rattle.nio_steps.specs.ChannelCalls.{Registers, SetsBlocking}
use Rattle.std.proofs.Common.{false, refl, sym, subst}
use Rattle.nio_words.specs.Passes.{limits_of}
use Rattle.nio_words.specs.Views.{view}
use Rattle.nio_words.specs.declared.words.Words.{Words}
use Rattle.nio_caller.specs.Several.{RegistersAfter}
use Rattle.nio_caller.proofs.Calls.{acting_after, acts_at, call_on, still_has, unpinned_at}
use Rattle.nio_caller.proofs.GoingOn as goes_on
use Rattle.nio_caller.proofs.NamedCalls.{calls_from, seen_at}
use Rattle.nio_caller.proofs.callers.Caller.register_found.Goals as goal

pub invariant_of-self : goal.invariant_of-self
invariant_of-self g c =
    acting_after c.words.ensures (goes_on.set_blocking _ _ _) c.set_blocking.ensures.call c.set_blocking.ensures.ready c.self.invariant

pub register-requires-clause-selector : goal.register-requires-clause-selector
register-requires-clause-selector g c =
    subst (λ (w : Words). HasSelector (view w c.set_blocking.new.p) c.args.sel) (sym c.words-2.ensures)
    ((still_has (acts_at c.words.ensures c.self.inside.pass c.set_blocking.new.p c.set_blocking.ensures.call.acts)).selectors _
    (seen_at refl (λ v. HasSelector v c.args.sel) c.self.view_is c.requires.selector))

pub register-requires-clause-channel : goal.register-requires-clause-channel
register-requires-clause-channel g c =
    subst (λ (w : Words). HasChannel (view w c.set_blocking.new.p) c.args.chan) (sym c.words-2.ensures)
    ((still_has (acts_at c.words.ensures c.self.inside.pass c.set_blocking.new.p c.set_blocking.ensures.call.acts)).channels _
    (seen_at refl (λ v. HasChannel v c.args.chan) c.self.view_is c.requires.channel))

pub register-requires-clause-unpinned : goal.register-requires-clause-unpinned
register-requires-clause-unpinned g c =
    unpinned_at c.words-2.ensures (acting_after c.words.ensures (goes_on.set_blocking _ _ _) c.set_blocking.ensures.call c.set_blocking.ensures.ready c.self.invariant)

pub invariant_of-self-2 : goal.invariant_of-self-2
invariant_of-self-2 g c =
    acting_after c.words-2.ensures (goes_on.register _ _ _ _ _) c.register.ensures.call c.register.ensures.ready (acting_after c.words.ensures (goes_on.set_blocking _ _ _) c.set_blocking.ensures.call c.set_blocking.ensures.ready c.self.invariant)

pub returns-clause-call : goal.returns-clause-call
returns-clause-call g c =
    calls_from refl _ _ c.self.view_is
    (then_call {Second = RegistersAfter (limits_of (g.T.Table.table c.self.inside.table)) c.args.sel c.args.chan c.args.ops c.args.att}
    {answer = c.register.result}
    (call_on c.words.ensures c.self.inside.pass c.set_blocking.new.p (λ l. SetsBlocking l c.args.chan false) c.in_ok-set_blocking.ensures.call)
    (call_on c.words-2.ensures c.set_blocking.new.p c.register.new.p (λ l. Registers l c.args.sel c.args.chan c.args.ops c.args.att) c.register.ensures.call))
