-- The steps of the calls on pipes. What a pipe holds stands in no part of the state: a plan says which looks
-- a call makes, and with which refusal it ends.
use Rattle.std.specs.Prelude.{◌≡◌, Bool, true, false, not, ◌&&◌, if◌then◌else◌, Result, Ok, Err, List, [], ◌∷◌}
use Rattle.nio_base.specs.declared.kind.Kind.TheVariants.{Source, Sink}
use Rattle.nio_base.specs.declared.limits.Limits.{Limits}
use Rattle.nio_base.specs.declared.numbers.ChanId.{ChanId}
use Rattle.nio_history.specs.Sets.{is_open_channel}
use Rattle.nio_history.specs.declared.act.Act.{Act}
use Rattle.nio_history.specs.declared.found.Chan.{Chan}
use Rattle.nio_steps.specs.ChannelCalls.{open_channel_plan, close_channel_plan}
use Rattle.nio_steps.specs.Plan.{Plan, reply, ◌>>=◌, ◌>>◌}
use Rattle.nio_steps.specs.Runs.{Completes}
use Rattle.nio_steps.specs.Steps.{look_channel, look_interrupt}
use Rattle.nio_steps.specs.Waiting.{Repeats}
use Rattle.nio_steps.specs.declared.refusal.ChannelError.{ChannelError}
use Rattle.nio_steps.specs.declared.refusal.PipeError.{PipeError}
use Rattle.nio_steps.specs.declared.refusal.PipeError.TheVariants.{ClosedChannel, ClosedByInterrupt, AsynchronousClose}
use Rattle.nio_steps.specs.declared.refusal.PipeError.TheVariants.{BrokenPipe}
use Rattle.nio_steps.specs.declared.refusal.PipeMakeError.{PipeMakeError}

-- ---- making a pipe

-- the channels of a pipe
pub record PipeEnds : Type 0 where
  pub source : ChanId
  pub sink : ChanId

-- the source is closed where no sink was made for it
abbrev pub without_sink : Limits → ChanId → Plan (Result PipeEnds PipeMakeError)
without_sink l source = do
  close_channel_plan l source
  reply (Err PipeMakeError.ChannelsSpent)

-- a sink for the source. Opening a channel is refused with `ChannelsSpent` alone
abbrev pub with_sink : Limits → ChanId → Result ChanId ChannelError → Plan (Result PipeEnds PipeMakeError)
with_sink l source (Ok sink) = reply (Ok (record { source = source; sink = sink }))
with_sink l source (Err ChannelError.ChannelsSpent) = without_sink l source
with_sink l source (Err ChannelError.IllegalOps) = without_sink l source
with_sink l source (Err ChannelError.ClosedChannel) = without_sink l source
with_sink l source (Err ChannelError.Busy) = without_sink l source
with_sink l source (Err ChannelError.IllegalBlockingMode) = without_sink l source
with_sink l source (Err ChannelError.CancelledKey) = without_sink l source
with_sink l source (Err ChannelError.ClosedSelector) = without_sink l source
with_sink l source (Err ChannelError.Full) = without_sink l source

abbrev pub with_source : Limits → Result ChanId ChannelError → Plan (Result PipeEnds PipeMakeError)
with_source l (Ok source) = open_channel_plan l Sink >>= with_sink l source
with_source l (Err ChannelError.ChannelsSpent) = reply (Err PipeMakeError.ChannelsSpent)
with_source l (Err ChannelError.IllegalOps) = reply (Err PipeMakeError.ChannelsSpent)
with_source l (Err ChannelError.ClosedChannel) = reply (Err PipeMakeError.ChannelsSpent)
with_source l (Err ChannelError.Busy) = reply (Err PipeMakeError.ChannelsSpent)
with_source l (Err ChannelError.IllegalBlockingMode) = reply (Err PipeMakeError.ChannelsSpent)
with_source l (Err ChannelError.CancelledKey) = reply (Err PipeMakeError.ChannelsSpent)
with_source l (Err ChannelError.ClosedSelector) = reply (Err PipeMakeError.ChannelsSpent)
with_source l (Err ChannelError.Full) = reply (Err PipeMakeError.ChannelsSpent)

-- `lacks` says whether there is no memory for the pipe
unfoldable pub pipe_plan : Limits → Bool → Plan (Result PipeEnds PipeMakeError)
pipe_plan l lacks = if lacks then reply (Err PipeMakeError.Memory) else (open_channel_plan l Source >>= with_source l)

abbrev pub pipe_lacks_memory : {A : Type 0} → Result A PipeMakeError → Bool
pipe_lacks_memory (Ok ends) = false
pipe_lacks_memory (Err PipeMakeError.ChannelsSpent) = false
pipe_lacks_memory (Err PipeMakeError.Memory) = true

-- the call with this answer
abbrev pub MakesPipe : Limits → List Act → Result PipeEnds PipeMakeError → Type 0
MakesPipe l acts answer = Completes (pipe_plan l (pipe_lacks_memory answer)) acts answer

-- ---- reading and writing
--
-- The answer of these plans is a refusal, or the channel's mode that was found: true for blocking.

-- an interrupted caller closes the channel
abbrev pub if_interrupted : Limits → ChanId → Bool → Plan (Result Bool PipeError)
if_interrupted l c interrupted = if interrupted then (do
  close_channel_plan l c
  reply (Err ClosedByInterrupt)) else reply (Ok true)

-- in blocking mode the caller looks whether it is interrupted
abbrev pub if_open : Limits → ChanId → Chan → Plan (Result Bool PipeError)
if_open l c found =
    if not (is_open_channel found c.serial) then reply (Err ClosedChannel) else
    (if found.blocking then (look_interrupt >>= if_interrupted l c) else reply (Ok false))

unfoldable pub try_read_plan : Limits → ChanId → Plan (Result Bool PipeError)
try_read_plan l source = look_channel source.number >>= if_open l source

-- a write needs that the source isn't closed
abbrev pub if_unbroken : ChanId → Result Bool PipeError → Plan (Result Bool PipeError)
if_unbroken source (Ok blocking) = do
  found ← look_channel source.number
  reply (if is_open_channel found source.serial then Ok blocking else Err BrokenPipe)
if_unbroken source (Err refusal) = reply (Err refusal)

unfoldable pub try_write_plan : Limits → ChanId → ChanId → Plan (Result Bool PipeError)
try_write_plan l source sink = look_channel sink.number >>= if_open l sink >>= if_unbroken source

-- ---- calls that wait

-- A run of such a call is given whether there were no bytes to read, or no room to write. In blocking mode it is
-- then made again.
abbrev pub waits_for_bytes : Bool → Result Bool PipeError → Bool
waits_for_bytes none (Ok blocking) = none && blocking
waits_for_bytes none (Err ClosedChannel) = false
waits_for_bytes none (Err ClosedByInterrupt) = false
waits_for_bytes none (Err AsynchronousClose) = false
waits_for_bytes none (Err BrokenPipe) = false

-- A channel that was found closed after it was found open was closed by another caller meanwhile.
abbrev pub as_waited : {X : Type 0} → List X → Result Bool PipeError → Result Bool PipeError
as_waited [] found = found
as_waited (run ∷ later) (Ok blocking) = Ok blocking
as_waited (run ∷ later) (Err ClosedChannel) = Err AsynchronousClose
as_waited (run ∷ later) (Err ClosedByInterrupt) = Err ClosedByInterrupt
as_waited (run ∷ later) (Err AsynchronousClose) = Err AsynchronousClose
as_waited (run ∷ later) (Err BrokenPipe) = Err BrokenPipe

-- reading or writing until there are bytes or room, with this plan; `none` says whether the last run found no
-- bytes, or no room
pub record Waits (plan : Plan (Result Bool PipeError)) (none : Bool) (acts : List Act)
    (answer : Result Bool PipeError) : Type 0 where
  pub found : Result Bool PipeError
  pub runs : Repeats (λ (_ : Bool). Completes plan) waits_for_bytes acts found
  pub found_none : runs.last.given ≡ none
  pub answer_is : answer ≡ as_waited runs.tries.runs found

abbrev pub Reads : Limits → ChanId → Bool → List Act → Result Bool PipeError → Type 0
Reads l source = Waits (try_read_plan l source)

abbrev pub Writes : Limits → ChanId → ChanId → Bool → List Act → Result Bool PipeError → Type 0
Writes l source sink = Waits (try_write_plan l source sink)
