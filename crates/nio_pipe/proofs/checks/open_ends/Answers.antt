use Rattle.nio_base.specs.declared.kind.Kind.TheVariants.{Source}
use Rattle.nio_steps.proofs.CallLaws.{returned, left_of_call, left_after_call, ran_then}
use Rattle.nio_steps.proofs.PinBack.{no_pin_after}
use Rattle.nio_steps.proofs.PinLaws.{pins_are_given_back}
use Rattle.nio_steps.specs.PipeCalls.{pipe_plan, with_source}
use Rattle.nio_words.specs.Passes.{limits_of}
use Rattle.nio_pipe.proofs.Opening.{left_as, no_source}
use Rattle.nio_pipe.proofs.checks.open_ends.Goals as goal

pub open_sink-requires-clause-unpinned : goal.open_sink-requires-clause-unpinned
open_sink-requires-clause-unpinned c =
    no_pin_after (λ acts shape. pins_are_given_back.open_channel _ Source acts _ shape) c.in-Ok.ensures.call
    c.requires.unpinned

pub returns-in-Ok-clause-call : goal.returns-in-Ok-clause-call
unfolding pipe_plan
returns-in-Ok-clause-call c =
    returned (ran_then (with_source (limits_of c.args.w.now)) c.in-Ok.ensures.call
    (left_of_call c.open_sink.ensures.call))

pub returns-in-Err-clause-call : goal.returns-in-Err-clause-call
unfolding pipe_plan
returns-in-Err-clause-call c =
    let l = limits_of c.args.w.now in
    returned (ran_then (with_source l) c.in-Err.ensures.call
    (left_as (no_source l c.in-Err.field-0) (left_after_call c.in-Err.ensures.call)))

pub returns-in-Err-clause-unpinned : goal.returns-in-Err-clause-unpinned
returns-in-Err-clause-unpinned c =
    no_pin_after (λ acts shape. pins_are_given_back.open_channel _ Source acts _ shape) c.in-Err.ensures.call
    c.requires.unpinned
