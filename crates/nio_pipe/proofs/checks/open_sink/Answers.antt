use Rattle.std.proofs.Common.{Err}
use Rattle.nio_base.specs.declared.kind.Kind.TheVariants.{Sink}
use Rattle.nio_history.proofs.PassViews.{channel_after}
use Rattle.nio_steps.proofs.CallLaws.{returned, left_after_call, ran_then}
use Rattle.nio_steps.proofs.PinBack.{no_pin_after}
use Rattle.nio_steps.proofs.PinLaws.{pins_are_given_back}
use Rattle.nio_steps.specs.PipeCalls.{with_sink}
use Rattle.nio_steps.specs.Plan.{reply}
use Rattle.nio_steps.specs.declared.refusal.PipeMakeError.TheVariants.{ChannelsSpent}
use Rattle.nio_words.specs.Passes.{limits_of}
use Rattle.nio_pipe.proofs.Opening.{left_as, no_sink}
use Rattle.nio_pipe.proofs.checks.open_sink.Goals as goal

pub returns-in-Ok-clause-call : goal.returns-in-Ok-clause-call
returns-in-Ok-clause-call c =
    returned (ran_then (with_sink (limits_of c.args.w.now) c.args.source) c.in-Ok.ensures.call
    (left_after_call c.in-Ok.ensures.call))

pub returns-in-Ok-clause-ends : goal.returns-in-Ok-clause-ends
returns-in-Ok-clause-ends c =
    record { source = channel_after c.in-Ok.ensures.call.acts c.requires.source; sink = c.in-Ok.ensures.made }

pub returns-in-Ok-clause-unpinned : goal.returns-in-Ok-clause-unpinned
returns-in-Ok-clause-unpinned c =
    no_pin_after (λ acts shape. pins_are_given_back.open_channel _ Sink acts _ shape) c.in-Ok.ensures.call
    c.requires.unpinned

pub close_channel-requires-clause-channel : goal.close_channel-requires-clause-channel
close_channel-requires-clause-channel c = channel_after c.in-Err.ensures.call.acts c.requires.source

pub close_channel-requires-clause-unpinned : goal.close_channel-requires-clause-unpinned
close_channel-requires-clause-unpinned c =
    no_pin_after (λ acts shape. pins_are_given_back.open_channel _ Sink acts _ shape) c.in-Err.ensures.call
    c.requires.unpinned

pub returns-in-Err-clause-call : goal.returns-in-Err-clause-call
returns-in-Err-clause-call c =
    let l = limits_of c.args.w.now in
    returned (ran_then (with_sink l c.args.source) c.in-Err.ensures.call
    (left_as (no_sink l c.args.source c.in-Err.field-0)
    (ran_then (λ _. reply (Err ChannelsSpent)) c.close_channel.ensures.call
    (left_after_call c.close_channel.ensures.call))))
