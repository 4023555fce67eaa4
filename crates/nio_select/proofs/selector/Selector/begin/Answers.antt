use Rattle.std.proofs.Common.{◌≡◌, rules, ap, sym, subst}
use Rattle.nio_base.specs.declared.numbers.SelNo.{SelNo}
use Rattle.nio_history.proofs.PassViews.{selector_after}
use Rattle.nio_history.specs.PassViews.{HasSelector, done_between}
use Rattle.nio_words.specs.Views.{view}
use Rattle.nio_select.specs.Asked.{AreTaken}
use Rattle.nio_select.specs.InHand.{HeldSelector}
use Rattle.nio_select.proofs.Progress.{if_err, if_some}
use Rattle.nio_select.proofs.selector.Selector.begin.Goals as goal

pub returns-in-None-clause-refused : goal.returns-in-None-clause-refused
returns-in-None-clause-refused c =
    if_err _ c.try_begin.result (
      search rules,
      record {
        made = subst (λ (s : SelNo). HasSelector (view c.args.w.now c.try_begin.new.p) s)
            (sym (ap (λ (s : HeldSelector). s.number) c.self.view_is))
            (selector_after c.try_begin.ensures.call.acts c.requires.may.made);
        had = search rules;
      },
    )

pub returns-in-Ok-clause-taken : goal.returns-in-Ok-clause-taken
returns-in-Ok-clause-taken c =
    let its : c.in-Some.list.selector ≡ c.args.self.now.number = search rules in
    if_some (AreTaken c.args.self.now.number
    (done_between c.args.me (view c.args.w.now c.args.p.now) (view c.args.w.now c.begin.new.p))
    c.in-Ok.selection.asked.changed)
    c.args.self.now.list
    (subst (λ (s : SelNo). AreTaken s
    (done_between c.args.me (view c.args.w.now c.args.p.now) (view c.args.w.now c.begin.new.p))
    c.in-Ok.selection.asked.changed)
    its c.in-Ok.ensures.taken)
