-- Parts of the plans of calls on pipes, and what their answers mean.
use Rattle.std.specs.Prelude.{Bool, Result, Ok, Err}
use Rattle.nio_base.specs.declared.kind.Kind.TheVariants.{Sink}
use Rattle.nio_base.specs.declared.limits.Limits.{Limits}
use Rattle.nio_base.specs.declared.numbers.ChanId.{ChanId}
use Rattle.nio_steps.specs.PipeCalls.{PipeEnds, if_interrupted, with_sink}
use Rattle.nio_steps.specs.ChannelCalls.{open_channel_plan}
use Rattle.nio_steps.specs.Plan.{Plan, ◌>>=◌}
use Rattle.nio_steps.specs.Steps.{look_interrupt}
use Rattle.nio_steps.specs.declared.refusal.PipeError.{PipeError}
use Rattle.nio_steps.specs.declared.refusal.PipeMakeError.{PipeMakeError}
use Rattle.nio_pipe.specs.declared.checks.Ends.{Ends}

-- what a call does once it found its channel open and in blocking mode
abbrev pub looks_interrupt : Limits → ChanId → Plan (Result Bool PipeError)
looks_interrupt l c = look_interrupt >>= if_interrupted l c

-- the sink is opened, where there is a source
abbrev pub opens_sink : Limits → ChanId → Plan (Result PipeEnds PipeMakeError)
opens_sink l source = open_channel_plan l Sink >>= with_sink l source

-- the channels that were opened, or the refusal
abbrev pub ends_opened : Result Ends PipeMakeError → Result PipeEnds PipeMakeError
ends_opened (Ok ends) = Ok (record { source = ends.source; sink = ends.sink })
ends_opened (Err refusal) = Err refusal
