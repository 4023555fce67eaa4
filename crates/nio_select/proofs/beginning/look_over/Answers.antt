use Rattle.std.proofs.Common.{refl, ap, sym}
use Rattle.nio_history.specs.declared.found.Stage.{Stage}
use Rattle.nio_steps.proofs.CallLaws.{returned, left_ask, left_then, left_else, left_after, left_of_call, ran_then}
use Rattle.nio_steps.specs.Plan.{reply}
use Rattle.nio_words.proofs.Views.{step_acts}
use Rattle.nio_select.proofs.Begun.{begun_stays, stage_now, may_remove_now}
use Rattle.nio_select.proofs.beginning.look_over.Goals as goal

pub remove_cancelled-requires-clause-begun : goal.remove_cancelled-requires-clause-begun
remove_cancelled-requires-clause-begun c = begun_stays c.look_key-stage.ensures refl refl c.requires.begun

pub remove_cancelled-requires-clause-may : goal.remove_cancelled-requires-clause-may
remove_cancelled-requires-clause-may c =
    may_remove_now c.args.i (begun_stays c.look_key-stage.ensures refl refl c.requires.begun)
    (stage_now (step_acts c.look_key-stage.ensures refl)) (sym c.if-is_in_cancelled_set.ensures)

pub remove_cancelled-requires-clause-serial : goal.remove_cancelled-requires-clause-serial
remove_cancelled-requires-clause-serial c =
    ap (λ (k : Stage). k.serial) (stage_now (step_acts c.look_key-stage.ensures refl))

pub look_valid-requires-clause-begun : goal.look_valid-requires-clause-begun
look_valid-requires-clause-begun c = begun_stays c.look_key-stage.ensures refl refl c.requires.begun

pub returns-then-is_in_cancelled_set-clause-call : goal.returns-then-is_in_cancelled_set-clause-call
returns-then-is_in_cancelled_set-clause-call c =
    returned (left_ask _ (step_acts c.look_key-stage.ensures refl)
    (left_then _ _ _ (sym c.if-is_in_cancelled_set.ensures)
    (ran_then (λ _. reply c.args.asked.now.keys) c.remove_cancelled.ensures.call
    (left_after c.remove_cancelled.ensures.call.acts))))

pub returns-then-is_valid-clause-call : goal.returns-then-is_valid-clause-call
returns-then-is_valid-clause-call c =
    returned (left_ask _ (step_acts c.look_key-stage.ensures refl)
    (left_else _ _ _ (sym c.if-is_in_cancelled_set.ensures)
    (left_then _ _ _ (sym c.if-is_valid.ensures) (left_of_call c.look_valid.ensures.call))))

pub returns-else-is_valid-clause-begun : goal.returns-else-is_valid-clause-begun
returns-else-is_valid-clause-begun c = begun_stays c.look_key-stage.ensures refl refl c.requires.begun
