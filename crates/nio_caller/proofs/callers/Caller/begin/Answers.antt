use Rattle.std.proofs.Common.{Ok, Err, ap, refl, sym, ◌∙◌}
use Rattle.nio_history.specs.PassViews.{HasSelector}
use Rattle.nio_select.specs.InHand.{HeldSelector}
use Rattle.nio_caller.specs.Callers.{Progress, selection_in}
use Rattle.nio_caller.proofs.NamedCalls.{met_on, missed, on_calls, seen_at}
use Rattle.nio_caller.proofs.Ongoing.{acting_begun, acting_unbegun, begun_here, begun_others, had_progress, if_is}
use Rattle.nio_caller.proofs.Ongoing.{same_closings, starts, unstarted}
use Rattle.nio_caller.proofs.Selections.{had_before, lent_so}
use Rattle.nio_caller.proofs.callers.Caller.begin.Goals as goal

pub returns-then-not-has_selector-clause-call : goal.returns-then-not-has_selector-clause-call
returns-then-not-has_selector-clause-call g c =
    on_calls _ (missed _ _ c.if-not-has_selector.ensures.call)

pub invariant_of-self : goal.invariant_of-self
invariant_of-self g c =
    acting_begun c.words.ensures c.self.inside.pass c.begin-begun.new.p c.self.inside.number c.self.inside.lists
    c.take-selector.new.self c.put.new.self c.self.inside.progress c.args.sel c.take-selector.result
    c.begin-begun.new.self c.args.mode (Ok c.in-Ok.selection) c.take-selector.ensures.taken c.take-selector.ensures.others
    c.put.ensures.put c.put.ensures.others c.in-Ok.ensures.call c.in-Ok.ensures.lent c.in-Ok.ensures.refused
    c.begin-begun.ensures.ready c.self.invariant
    (seen_at refl (λ v. HasSelector v c.args.sel) c.self.view_is (c.if-not-has_selector.ensures.has refl))
    c.put_selection.new.self c.in-Ok.selection
    (c.in-Ok.ensures.lent.1.on ∙ (ap (λ (x : HeldSelector). x.number) c.take-selector.ensures.taken
    ∙ c.self.invariant.lists.numbers c.args.sel))
    c.in-Ok.ensures.begun c.put_selection.ensures.put c.put_selection.ensures.others c.put_selection.ensures.closings

pub invariant_of-self-in-Err : goal.invariant_of-self-in-Err
invariant_of-self-in-Err g c =
    acting_unbegun c.words.ensures c.self.inside.pass c.begin-begun.new.p c.self.inside.number c.self.inside.lists
    c.take-selector.new.self c.put.new.self c.self.inside.progress c.args.sel c.take-selector.result
    c.begin-begun.new.self c.args.mode (Err c.in-Err.error) c.take-selector.ensures.taken c.take-selector.ensures.others
    c.put.ensures.put c.put.ensures.others c.in-Err.ensures.call c.in-Err.ensures.lent c.in-Err.ensures.refused
    c.begin-begun.ensures.ready c.self.invariant
    (seen_at refl (λ v. HasSelector v c.args.sel) c.self.view_is (c.if-not-has_selector.ensures.has refl))

pub returns-in-Ok-clause-call : goal.returns-in-Ok-clause-call
returns-in-Ok-clause-call g c =
    met_on c.words.ensures c.put.new.self c.put_selection.new.self c.args.sel _ _ _ c.if-not-has_selector.ensures.call
    c.self.view_is
    (starts c.args.sel c.args.mode c.take-selector.result _ _ c.in-Ok.selection
    (c.take-selector.ensures.taken ∙ had_before c.args.sel c.if-not-has_selector.ensures.call c.self.view_is)
    (ap (λ (x : HeldSelector). x.number)
    (sym (had_before c.args.sel c.if-not-has_selector.ensures.call c.self.view_is))
    ∙ c.self.invariant.lists.numbers c.args.sel)
    c.put_selection.ensures.put c.in-Ok.ensures.call)
    (record {
      lists = begun_others c.words.ensures c.self.inside.pass c.begin-begun.new.p c.self.inside.number c.self.inside.lists
          c.take-selector.new.self c.put.new.self c.self.inside.progress c.args.sel c.take-selector.result
          c.begin-begun.new.self c.args.mode (Ok c.in-Ok.selection) c.take-selector.ensures.taken c.take-selector.ensures.others
          c.put.ensures.put c.put.ensures.others c.in-Ok.ensures.call c.in-Ok.ensures.lent c.in-Ok.ensures.refused c.self.invariant.lists;
      selections = c.put_selection.ensures.others;
      closings = λ t other. same_closings c.self.inside.progress c.put_selection.new.self c.put_selection.ensures.closings t;
    })

pub returns-in-Err-clause-call : goal.returns-in-Err-clause-call
returns-in-Err-clause-call g c =
    met_on c.words.ensures c.put.new.self c.self.inside.progress c.args.sel _ _ _ c.if-not-has_selector.ensures.call
    c.self.view_is
    (unstarted c.args.sel c.args.mode c.take-selector.result _ _ c.in-Err.error
    (c.take-selector.ensures.taken ∙ had_before c.args.sel c.if-not-has_selector.ensures.call c.self.view_is)
    (ap (λ (x : HeldSelector). x.number)
    (sym (had_before c.args.sel c.if-not-has_selector.ensures.call c.self.view_is))
    ∙ c.self.invariant.lists.numbers c.args.sel)
    c.in-Err.ensures.call)
    (record {
      lists = begun_others c.words.ensures c.self.inside.pass c.begin-begun.new.p c.self.inside.number c.self.inside.lists
          c.take-selector.new.self c.put.new.self c.self.inside.progress c.args.sel c.take-selector.result
          c.begin-begun.new.self c.args.mode (Err c.in-Err.error) c.take-selector.ensures.taken c.take-selector.ensures.others
          c.put.ensures.put c.put.ensures.others c.in-Err.ensures.call c.in-Err.ensures.lent c.in-Err.ensures.refused c.self.invariant.lists;
      selections = λ t other. refl;
      closings = λ t other. refl;
    })

pub returns-in-Ok-clause-lent : goal.returns-in-Ok-clause-lent
returns-in-Ok-clause-lent g c =
    if_is _ _ c.in-Ok.selection c.put_selection.ensures.put
    (lent_so c.take-selector.result c.begin-begun.new.self (Ok c.in-Ok.selection) _ _ c.args.sel c.in-Ok.ensures.lent
    (begun_here c.words.ensures c.self.inside.pass c.begin-begun.new.p c.self.inside.number c.self.inside.lists
    c.take-selector.new.self c.put.new.self c.self.inside.progress c.args.sel c.take-selector.result
    c.begin-begun.new.self c.args.mode (Ok c.in-Ok.selection) c.take-selector.ensures.taken c.take-selector.ensures.others
    c.put.ensures.put c.put.ensures.others c.in-Ok.ensures.call c.in-Ok.ensures.lent c.in-Ok.ensures.refused c.self.invariant.lists)
    (c.take-selector.ensures.taken ∙ had_before c.args.sel c.if-not-has_selector.ensures.call c.self.view_is)
    (ap (λ (x : HeldSelector). x.number) c.take-selector.ensures.taken ∙ c.self.invariant.lists.numbers c.args.sel))

pub returns-in-Ok-clause-closings : goal.returns-in-Ok-clause-closings
returns-in-Ok-clause-closings g c =
    c.put_selection.ensures.closings
    ∙ ap (λ (x : Progress). x.closings) (had_progress c.if-not-has_selector.ensures.call c.self.view_is)

pub returns-in-Err-clause-refused : goal.returns-in-Err-clause-refused
returns-in-Err-clause-refused g c = (
  begun_here c.words.ensures c.self.inside.pass c.begin-begun.new.p c.self.inside.number c.self.inside.lists
      c.take-selector.new.self c.put.new.self c.self.inside.progress c.args.sel c.take-selector.result
      c.begin-begun.new.self c.args.mode (Err c.in-Err.error) c.take-selector.ensures.taken c.take-selector.ensures.others
      c.put.ensures.put c.put.ensures.others c.in-Err.ensures.call c.in-Err.ensures.lent c.in-Err.ensures.refused c.self.invariant.lists
      ∙ (c.in-Err.ensures.refused.0
      ∙ (c.take-selector.ensures.taken ∙ had_before c.args.sel c.if-not-has_selector.ensures.call c.self.view_is)),
  ap (λ (x : Progress). selection_in x c.args.sel) (had_progress c.if-not-has_selector.ensures.call c.self.view_is),
)

pub returns-in-Err-clause-closings : goal.returns-in-Err-clause-closings
returns-in-Err-clause-closings g c =
    ap (λ (x : Progress). x.closings) (had_progress c.if-not-has_selector.ensures.call c.self.view_is)
