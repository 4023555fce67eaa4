use Rattle.std.proofs.Common.{refl, sym, ◌∙◌}
use Rattle.nio_history.proofs.PassViews.{acts_then}
use Rattle.nio_steps.proofs.CallLaws.{returned, left_after, left_ask, left_else, left_of_call}
use Rattle.nio_words.proofs.Views.{step_acts}
use Rattle.nio_select.proofs.Begun.{begun_stays}
use Rattle.nio_select.proofs.KeyChanges.{changed_after, mark_changed, step_changed}
use Rattle.nio_select.proofs.telling.mark_looked.Goals as goal

pub returns-then-gains_nothing-clause-begun : goal.returns-then-gains_nothing-clause-begun
returns-then-gains_nothing-clause-begun c = begun_stays c.look_mark-was.ensures refl refl c.requires.begun

pub returns-then-gains_nothing-clause-marked : goal.returns-then-gains_nothing-clause-marked
returns-then-gains_nothing-clause-marked c = λ asked. step_changed asked (step_acts c.look_mark-was.ensures refl)

pub mark-requires-clause-begun : goal.mark-requires-clause-begun
mark-requires-clause-begun c = (begun_stays c.look_mark-was.ensures refl refl c.requires.begun).begun

pub mark_again-requires-clause-begun : goal.mark_again-requires-clause-begun
mark_again-requires-clause-begun c =
    begun_stays c.in-Err.ensures refl refl (begun_stays c.look_mark-was.ensures refl refl c.requires.begun)

pub returns-in-Ok-clause-call : goal.returns-in-Ok-clause-call
returns-in-Ok-clause-call c =
    let marks = step_acts c.in-Ok.ensures refl in
    returned (left_ask _ (step_acts c.look_mark-was.ensures refl) (left_else _ _ _ (sym c.if-gains_nothing.ensures)
    (left_ask _ marks (left_after marks))))

pub returns-in-Ok-clause-begun : goal.returns-in-Ok-clause-begun
returns-in-Ok-clause-begun c =
    begun_stays c.in-Ok.ensures refl refl (begun_stays c.look_mark-was.ensures refl refl c.requires.begun)

pub returns-in-Ok-clause-marked : goal.returns-in-Ok-clause-marked
returns-in-Ok-clause-marked c = λ asked.
    let marks = step_acts c.in-Ok.ensures refl in
    changed_after asked (step_acts c.look_mark-was.ensures refl) refl marks ∙ mark_changed asked marks c.ready_with-ready.ensures

pub returns-in-Err-clause-call : goal.returns-in-Err-clause-call
returns-in-Err-clause-call c =
    returned (left_ask _ (step_acts c.look_mark-was.ensures refl) (left_else _ _ _ (sym c.if-gains_nothing.ensures)
    (left_ask _ (step_acts c.in-Err.ensures refl) (left_of_call c.mark_again.ensures.call))))

pub returns-in-Err-clause-marked : goal.returns-in-Err-clause-marked
returns-in-Err-clause-marked c = λ asked.
    let looks = step_acts c.look_mark-was.ensures refl in
    let marks = step_acts c.in-Err.ensures refl in
    changed_after asked looks refl (acts_then _ _ _ _ _ _ marks c.mark_again.ensures.call.acts)
    ∙ (changed_after asked marks refl c.mark_again.ensures.call.acts ∙ c.mark_again.ensures.marked asked)
