use Rattle.std.proofs.Common.{Ok, Err, refl, sym, ◌∙◌, ap, subst}
use Rattle.nio_history.proofs.PassViews.{selector_after}
use Rattle.nio_steps.specs.declared.refusal.BeginError.TheVariants as begin_error
use Rattle.nio_words.specs.Views.{view}
use Rattle.nio_select.specs.InHand.{HeldSelector, selection_of}
use Rattle.nio_select.specs.InProgress.{MaySelect}
use Rattle.nio_poller.proofs.Ready.{given_back}
use Rattle.nio_poller.proofs.Whole.{begins_with, select_begun, select_refused}
use Rattle.nio_poller.proofs.selecting.select_in.Goals as goal

pub returns-in-Ok-clause-call : goal.returns-in-Ok-clause-call
returns-in-Ok-clause-call g c =
    select_begun c.args.selector.now c.args.waiting (selection_of c.in-Ok.selection)
    (begins_with c.args.selector.now _ _ (Ok (selection_of c.in-Ok.selection)) c.begun_with.ensures c.in-Ok.ensures.call)
    c.poll_until_over-ended.ensures.call
    (c.give_back.ensures
    ∙ given_back c.args.selector.now c.begin.new.selector c.in-Ok.selection c.poll_until_over-ended.result.1
    c.in-Ok.ensures.lent.0 c.in-Ok.ensures.lent.1 c.poll_until_over-ended.ensures.list)

pub returns-in-Ok-clause-may : goal.returns-in-Ok-clause-may
returns-in-Ok-clause-may g c =
    subst (MaySelect (view c.args.w.now c.poll_until_over-ended.new.p) c.args.me)
    (sym (c.give_back.ensures ∙ ap (λ (s : HeldSelector). record s { list = c.poll_until_over-ended.result.1 })
    c.in-Ok.ensures.lent.0))
    (record {
      made = selector_after c.poll_until_over-ended.ensures.call.call.acts
          (selector_after c.in-Ok.ensures.call.acts c.requires.may.made);
      had = c.poll_until_over-ended.ensures.had;
    })

pub returns-in-Err-ClosedSelector-clause-call : goal.returns-in-Err-ClosedSelector-clause-call
returns-in-Err-ClosedSelector-clause-call g c =
    let refused = c.in-Err-ClosedSelector.ensures in
    select_refused c.args.selector.now c.args.waiting begin_error.ClosedSelector _ c.in-Err-ClosedSelector.field-0-is
    refused.refused.0
    (begins_with c.args.selector.now _ _ (Err c.in-Err-ClosedSelector.field-0) c.begun_with.ensures refused.call) refl

pub returns-in-Err-Memory-clause-call : goal.returns-in-Err-Memory-clause-call
returns-in-Err-Memory-clause-call g c =
    let refused = c.in-Err-Memory.ensures in
    select_refused c.args.selector.now c.args.waiting begin_error.Memory _ c.in-Err-Memory.field-0-is refused.refused.0
    (begins_with c.args.selector.now _ _ (Err c.in-Err-Memory.field-0) c.begun_with.ensures refused.call) refl
