use Rattle.nio_caller.proofs.Calls.{acting_after}
use Rattle.nio_caller.proofs.GoingOn as goes_on
use Rattle.nio_caller.proofs.NamedCalls.{met_by, missed, refuses_call}
use Rattle.std.specs.Prelude.{IfOk, is_ok, suc}
use Rattle.std.proofs.Common.{◌∙◌, subst}
use Rattle.nio_history.specs.PassViews.{HasChannel}
use Rattle.nio_steps.specs.Names.{channel_of}
use Rattle.nio_words.specs.Views.{view}
use Rattle.nio_words.specs.declared.words.Words.{Words}
use Rattle.nio_history.specs.OwnEvents.{reopens}
use Rattle.nio_caller.proofs.Took.{is_ok_called, no_reopen, took_by, took_none}
use Rattle.nio_caller.proofs.NamedCalls.{if_called, ok_called, refused_is}
use Rattle.nio_caller.proofs.callers.Caller.reopen_channel.Goals as goal

pub invariant_of-self : goal.invariant_of-self
invariant_of-self g c =
    acting_after c.words.ensures (goes_on.reopen_channel _ _) c.reopen_channel.ensures.call c.reopen_channel.ensures.ready c.self.invariant

pub returns-then-not-has_channel-clause-call : goal.returns-then-not-has_channel-clause-call
returns-then-not-has_channel-clause-call g c =
    missed _ _ c.if-not-has_channel.ensures.call

pub returns-clause-call : goal.returns-clause-call
returns-clause-call g c =
    rw c.called.ensures (met_by c.words.ensures _ _ _ c.if-not-has_channel.ensures.call c.self.view_is (refuses_call _ _ c.reopen_channel.ensures.call))

pub returns-then-not-has_channel-clause-took : goal.returns-then-not-has_channel-clause-took
returns-then-not-has_channel-clause-took g c =
    took_none (reopens c.args.chan.number.0) (no_reopen c.args.chan.number.0) c.args.chan c.if-not-has_channel.ensures.call

pub returns-clause-next : goal.returns-clause-next
returns-clause-next g c =
    rw c.called.ensures (ok_called _ c.reopen_channel.result c.reopen_channel.ensures.next)

pub returns-clause-made : goal.returns-clause-made
returns-clause-made g c =
    rw c.called.ensures (ok_called _ c.reopen_channel.result
    (subst (λ (w : Words). IfOk c.reopen_channel.result (HasChannel (view w c.reopen_channel.new.p))) c.words.ensures
    c.reopen_channel.ensures.opened))

pub returns-clause-took : goal.returns-clause-took
returns-clause-took g c =
    rw c.called.ensures (is_ok_called c.reopen_channel.result ∙ took_by (reopens c.args.chan.number.0) (no_reopen c.args.chan.number.0) c.words.ensures c.reopen_channel.new.p (is_ok c.reopen_channel.result) c.args.chan c.if-not-has_channel.ensures.call c.self.view_is c.reopen_channel.ensures.call.acts c.reopen_channel.ensures.took)

pub returns-clause-lost : goal.returns-clause-lost
returns-clause-lost g c =
    rw c.called.ensures (λ is.
    subst (λ (w : Words). HasChannel (view w c.reopen_channel.new.p)
    (channel_of c.args.chan.number (suc c.args.chan.serial))) c.words.ensures
    (c.reopen_channel.ensures.lost (refused_is c.reopen_channel.result _ is)))

pub returns-clause-spent : goal.returns-clause-spent
returns-clause-spent g c =
    rw c.called.ensures (λ is. c.reopen_channel.ensures.spent (refused_is c.reopen_channel.result _ is))

pub returns-clause-closed : goal.returns-clause-closed
returns-clause-closed g c =
    rw c.called.ensures (if_called _ c.reopen_channel.result c.reopen_channel.ensures.closed)
