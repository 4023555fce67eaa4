use Rattle.std.proofs.Common.{◌≡◌, true, false, if◌then◌else◌, Ok, Err, refl, ap, rules}
use Rattle.std.proofs.lemmas.Result.{err_from_is_err_and}
use Rattle.nio_steps.proofs.CallLaws.{returned, left_ask, left_after_call, ran_then}
use Rattle.nio_history.specs.Sets.{is_open_channel}
use Rattle.nio_steps.specs.Plan.{reply}
use Rattle.nio_steps.specs.declared.refusal.PipeError.TheVariants.{BrokenPipe}
use Rattle.nio_steps.specs.PipeCalls.{try_read_plan, try_write_plan, if_unbroken}
use Rattle.nio_words.proofs.Pins.{no_pin_stays}
use Rattle.nio_words.proofs.Views.{step_acts}
use Rattle.nio_channel.proofs.Chains.{left_at}
use Rattle.nio_pipe.proofs.checks.check_write.Goals as goal

pub returns-in_err-blocking-clause-call : goal.returns-in_err-blocking-clause-call
unfolding try_read_plan try_write_plan
returns-in_err-blocking-clause-call c =
    let p = err_from_is_err_and c.from_residual.result c.from_residual.ensures.1 in
    rw (p.1, p.2)
    (returned
    (ran_then (if_unbroken c.args.source) c.in_err-blocking.ensures.call
    (left_after_call c.in_err-blocking.ensures.call)))

pub returns-in_err-blocking-clause-closed : goal.returns-in_err-blocking-clause-closed
returns-in_err-blocking-clause-closed c =
    let p = err_from_is_err_and c.from_residual.result c.from_residual.ensures.1 in
    rw (p.1, p.2) c.in_err-blocking.ensures.closed

pub returns-then-not-is_open-clause-call : goal.returns-then-not-is_open-clause-call
unfolding try_read_plan try_write_plan
returns-then-not-is_open-clause-call c =
    let unopen : is_open_channel c.look_channel.result c.args.source.serial ≡ false = search rules in
    returned (ran_then (if_unbroken c.args.source) c.in_ok-blocking.ensures.call
    (left_ask _ (step_acts c.look_channel.ensures refl)
    (left_at (ap (λ b. reply (if b then Ok c.in_ok-blocking.blocking else Err BrokenPipe)) unopen)
    (step_acts c.look_channel.ensures refl))))

pub returns-then-not-is_open-clause-unpinned : goal.returns-then-not-is_open-clause-unpinned
returns-then-not-is_open-clause-unpinned c =
    no_pin_stays (step_acts c.look_channel.ensures refl) refl c.in_ok-blocking.ensures.unpinned

pub returns-clause-call : goal.returns-clause-call
unfolding try_read_plan try_write_plan
returns-clause-call c =
    let opens : is_open_channel c.look_channel.result c.args.source.serial ≡ true = search rules in
    returned (ran_then (if_unbroken c.args.source) c.in_ok-blocking.ensures.call
    (left_ask _ (step_acts c.look_channel.ensures refl)
    (left_at (ap (λ b. reply (if b then Ok c.in_ok-blocking.blocking else Err BrokenPipe)) opens)
    (step_acts c.look_channel.ensures refl))))

pub returns-clause-unpinned : goal.returns-clause-unpinned
returns-clause-unpinned c = no_pin_stays (step_acts c.look_channel.ensures refl) refl c.in_ok-blocking.ensures.unpinned
