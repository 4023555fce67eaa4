use Rattle.std.proofs.Common.{Option, Ok, Err, List, None, ap, sym, ◌∙◌, subst}
use Rattle.std.specs.Prelude.{is_some}
use Rattle.nio_steps.specs.Calls.{CallClause}
use Rattle.nio_steps.specs.SelectCalls.{Begins}
use Rattle.nio_steps.specs.declared.looked.LookedKey.{LookedKey}
use Rattle.nio_words.specs.Views.{view}
use Rattle.nio_select.specs.Beginning.{begun_with}
use Rattle.nio_select.proofs.Beginnings.{known_none}
use Rattle.nio_select.proofs.Progress.{selects}
use Rattle.nio_select.proofs.beginning.try_begin.Goals as goal

pub returns-in-Ok-clause-call : goal.returns-in-Ok-clause-call
returns-in-Ok-clause-call c =
    subst (λ (k : Option (List LookedKey)). CallClause c.args.me (Begins c.args.sel c.args.mode k)
    (view c.args.w.now c.args.p.now) (view c.args.w.now c.begin.new.p)
    (begun_with c.args.sel c.args.mode c.begin.new.asked (Ok c.in-Ok.bound)))
    (known_none c.new-asked.result (ap is_some c.new-asked.ensures.stamp)) (c.in-Ok.ensures.call c.args.mode)

pub returns-in-Ok-clause-begun : goal.returns-in-Ok-clause-begun
returns-in-Ok-clause-begun c =
    selects c.args.sel c.args.mode None _ c.requires.selector.inside c.in-Ok.ensures.below
    (λ listed. absurd (cc (sym listed ∙ ap is_some (c.in-Ok.ensures.stamp ∙ c.new-asked.ensures.stamp))))
    (returns-in-Ok-clause-call c)

pub returns-in-Err-clause-call : goal.returns-in-Err-clause-call
returns-in-Err-clause-call c =
    subst (λ (k : Option (List LookedKey)). CallClause c.args.me (Begins c.args.sel c.args.mode k)
    (view c.args.w.now c.args.p.now) (view c.args.w.now c.begin.new.p) (Err c.in-Err.error))
    (known_none c.new-asked.result (ap is_some c.new-asked.ensures.stamp)) (c.in-Err.ensures.call c.args.mode)
