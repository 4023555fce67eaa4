use Rattle.std.proofs.Common.{Bool, refl, sym, subst}
use Rattle.std.proofs.lemmas.Bool.{or_right}
use Rattle.nio_history.specs.Conditions.{has_begun, has_pin}
use Rattle.nio_steps.proofs.CallLaws.{returned, left_ask, left_after, left_start}
use Rattle.nio_steps.specs.Calls.{CallClause}
use Rattle.nio_steps.specs.Plan.{when}
use Rattle.nio_steps.specs.Runs.{Completes}
use Rattle.nio_steps.specs.Steps.{touch}
use Rattle.nio_words.proofs.Views.{step_acts}
use Rattle.nio_words.specs.Passes.{state_seen}
use Rattle.nio_words.specs.Views.{view}
use Rattle.nio_select.proofs.BegunListed.{listed_stays, found_over}
use Rattle.nio_select.proofs.touched.touch_again.Goals as goal

pub touch-requires-clause-may : goal.touch-requires-clause-may
touch-requires-clause-may c =
    or_right (has_pin (state_seen c.args.p.now) c.args.me c.args.sel c.args.i)
    (has_begun (state_seen c.args.p.now) c.args.me c.args.sel) c.requires.begun.begun.begun

pub returns-then-found-clause-call : goal.returns-then-found-clause-call
returns-then-found-clause-call c =
    subst (λ (b : Bool). CallClause c.args.me (Completes (when b (touch c.args.sel c.args.i)))
    (view c.args.w.now c.args.p.now) (view c.args.w.now c.touch.new.p) tt) (sym c.if-found.true)
    (returned (left_ask _ (step_acts c.touch.ensures refl) (left_after (step_acts c.touch.ensures refl))))

pub returns-then-found-clause-begun : goal.returns-then-found-clause-begun
returns-then-found-clause-begun c = listed_stays c.touch.ensures refl refl c.requires.begun

pub returns-then-found-clause-found : goal.returns-then-found-clause-found
returns-then-found-clause-found c =
    found_over c.args.found.stage c.touch.ensures c.requires.begun.begun
    (listed_stays c.touch.ensures refl refl c.requires.begun).begun c.requires.found

pub returns-else-found-clause-call : goal.returns-else-found-clause-call
returns-else-found-clause-call c =
    subst (λ (b : Bool). CallClause c.args.me (Completes (when b (touch c.args.sel c.args.i)))
    (view c.args.w.now c.args.p.now) (view c.args.w.now c.args.p.now) tt) (sym c.if-found.false)
    (returned (left_start _ _ _ c.requires.begun.begun.ready.pass.legal))
