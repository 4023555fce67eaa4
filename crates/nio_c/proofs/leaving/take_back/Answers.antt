use Rattle.std.proofs.Common.{◌∙◌, inr, ap, subst}
use Rattle.nio_caller.specs.Callers.{Acting}
use Rattle.nio_c.specs.Holding.{Holding}
use Rattle.nio_c.specs.Leaving.{PutsBack}
use Rattle.nio_c.specs.Places.{VisitorView, visits_too}
use Rattle.nio_c.specs.contracts.kept.Kept.{the_view}
use Rattle.nio_c.specs.declared.visits.Visit.TheVariants as visit
use Rattle.nio_c.proofs.leaving.take_back.Goals as goal

pub returns-in-Err : goal.returns-in-Err
returns-in-Err c =
    let kept = c.acting.inside in
    let took = c.in-Some-take_first in
    let after : VisitorView → Holding = λ v. record (the_view kept) { visitor = v } in
    inr (subst (λ (before : Holding). PutsBack before (after c.leave.new.self)) c.acting.view_is
    (record {
      place = took.hand.place;
      other = took.caller;
      visits = ap after (c.leave.ensures
          ∙ (ap (λ (x : Acting). visits_too (visit.Leaves took.hand.place x) took.hand.visitor) c.in-Err.ensures.caller
          ∙ ap (visits_too (visit.Leaves took.hand.place took.caller)) took.ensures.hand_of));
    }))
