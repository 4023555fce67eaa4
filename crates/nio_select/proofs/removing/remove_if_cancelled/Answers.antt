use Rattle.std.proofs.Common.{refl, ap, sym, ◌∙◌}
use Rattle.nio_history.specs.declared.found.Stage.{Stage}
use Rattle.nio_steps.proofs.CallLaws.{returned, left_ask, left_then, left_after, ran_then}
use Rattle.nio_steps.specs.Plan.{reply}
use Rattle.nio_words.proofs.Views.{step_acts}
use Rattle.nio_select.proofs.Begun.{begun_stays, stage_now, may_remove_now}
use Rattle.nio_select.proofs.KeyChanges.{takes_after, takes_step, takes_these}
use Rattle.nio_select.proofs.removing.remove_if_cancelled.Goals as goal

pub remove_cancelled-removed-requires-clause-begun : goal.remove_cancelled-removed-requires-clause-begun
remove_cancelled-removed-requires-clause-begun g c = begun_stays c.look_key-stage.ensures refl refl c.requires.begun

pub remove_cancelled-removed-requires-clause-may : goal.remove_cancelled-removed-requires-clause-may
remove_cancelled-removed-requires-clause-may g c =
    may_remove_now c.args.i (begun_stays c.look_key-stage.ensures refl refl c.requires.begun)
    (stage_now (step_acts c.look_key-stage.ensures refl)) (sym c.if-is_in_cancelled_set.ensures)

pub remove_cancelled-removed-requires-clause-serial : goal.remove_cancelled-removed-requires-clause-serial
remove_cancelled-removed-requires-clause-serial g c =
    ap (λ (k : Stage). k.serial) (stage_now (step_acts c.look_key-stage.ensures refl))

pub returns-then-is_in_cancelled_set-clause-call : goal.returns-then-is_in_cancelled_set-clause-call
returns-then-is_in_cancelled_set-clause-call g c =
    returned (left_ask _ (step_acts c.look_key-stage.ensures refl)
    (left_then _ _ _ (sym c.if-is_in_cancelled_set.ensures)
    (ran_then (λ _. reply tt) c.remove_cancelled-removed.ensures.call (left_after c.remove_cancelled-removed.ensures.call.acts))))

pub returns-else-is_in_cancelled_set-clause-begun : goal.returns-else-is_in_cancelled_set-clause-begun
returns-else-is_in_cancelled_set-clause-begun g c = begun_stays c.look_key-stage.ensures refl refl c.requires.begun

pub returns-then-is_in_cancelled_set-clause-listed : goal.returns-then-is_in_cancelled_set-clause-listed
returns-then-is_in_cancelled_set-clause-listed g c = λ asked.
    takes_after asked (step_acts c.look_key-stage.ensures refl) refl c.remove_cancelled-removed.ensures.call.acts
    (takes_these asked (c.remove_cancelled-removed.ensures.removed asked)
    (c.note.ensures ∙ ap (g.L.Lister.noted c.args.lister.now) c.removal.ensures))

pub returns-else-is_in_cancelled_set-clause-listed : goal.returns-else-is_in_cancelled_set-clause-listed
returns-else-is_in_cancelled_set-clause-listed g c = λ asked.
    takes_step asked c.args.lister.now (step_acts c.look_key-stage.ensures refl) refl
