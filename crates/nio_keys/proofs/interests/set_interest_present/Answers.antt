use Rattle.std.proofs.Common.{refl, rules}
use Rattle.std.proofs.lemmas.Result.{err_from_is_err_and}
use Rattle.nio_keys.proofs.Supported.{ran_checked, ran_refused}
use Rattle.nio_steps.proofs.CallLaws.{left_ask, left_one, returned}
use Rattle.nio_steps.specs.KeyCalls.{put_set}
use Rattle.nio_words.proofs.Pins.{stays_pinned}
use Rattle.nio_words.proofs.Views.{step_acts, touched_amid}
use Rattle.nio_keys.proofs.interests.set_interest_present.Goals as goal

pub returns-in_err-check_operations-clause-call : goal.returns-in_err-check_operations-clause-call
returns-in_err-check_operations-clause-call c =
    let refusal = err_from_is_err_and c.from_residual.result c.from_residual.ensures.1 in
    rw (refusal.1, refusal.2)
    (ran_refused c.args.key c.args.stage c.args.ops (put_set c.args.key c.args.ops) (search rules))

pub swap_interest-requires-clause-pinned : goal.swap_interest-requires-clause-pinned
swap_interest-requires-clause-pinned c =
    (stays_pinned c.touch.ensures refl refl c.check_operations.ensures.pinned).only.here

pub swap_interest-requires-clause-touched : goal.swap_interest-requires-clause-touched
swap_interest-requires-clause-touched c =
    touched_amid (step_acts c.touch.ensures refl)
    (stays_pinned c.touch.ensures refl refl c.check_operations.ensures.pinned).only.here

pub returns-clause-call : goal.returns-clause-call
returns-clause-call c =
    ran_checked c.args.key c.args.stage c.args.ops (put_set c.args.key c.args.ops) (search rules)
    (returned (left_ask _ (step_acts c.touch.ensures refl) (left_one _ (step_acts c.swap_interest.ensures refl))))

pub returns-clause-pinned : goal.returns-clause-pinned
returns-clause-pinned c = stays_pinned c.swap_interest.ensures refl refl
    (stays_pinned c.touch.ensures refl refl c.check_operations.ensures.pinned)
