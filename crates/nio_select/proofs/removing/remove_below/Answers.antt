use Rattle.std.proofs.Common.{Bool, sym, subst}
use Rattle.nio_steps.specs.Calls.{CallClause}
use Rattle.nio_steps.specs.Looking.{remove_below}
use Rattle.nio_steps.specs.Runs.{Completes}
use Rattle.nio_words.specs.Views.{view}
use Rattle.nio_select.proofs.removing.remove_below.Goals as goal

pub returns-then-listed-clause-call : goal.returns-then-listed-clause-call
returns-then-listed-clause-call g c =
    subst (λ (b : Bool). CallClause c.args.me (Completes (remove_below c.args.sel c.args.mark b))
    (view c.args.w.now c.args.p.now) (view c.args.w.now c.remove_touched.new.p) tt) (sym c.if-listed.true)
    c.remove_touched.ensures.call

pub returns-else-listed-clause-call : goal.returns-else-listed-clause-call
returns-else-listed-clause-call g c =
    subst (λ (b : Bool). CallClause c.args.me (Completes (remove_below c.args.sel c.args.mark b))
    (view c.args.w.now c.args.p.now) (view c.args.w.now c.remove_not_free.new.p) tt) (sym c.if-listed.false)
    c.remove_not_free.ensures.call

pub returns-then-listed-clause-listed : goal.returns-then-listed-clause-listed
returns-then-listed-clause-listed g c = c.remove_touched.ensures.listed

pub returns-else-listed-clause-listed : goal.returns-else-listed-clause-listed
returns-else-listed-clause-listed g c = c.remove_not_free.ensures.listed
