-- Pipes. A pipe has a source, which its owner reads, and a sink, which its owner writes; at most 65,536 bytes wait
-- in it. A sink leaves the seal, behind which no byte comes, at its owner's close of it, and at a write of its
-- owner that finds it closed or closes it.
--
-- A call in blocking mode that finds its caller interrupted closes its channel, and the status stays set. Where
-- nothing is to be read, or no byte has room, a call in blocking mode would wait: its reply is `again`. In
-- non-blocking mode it is 0.
use Rattle.std.specs.Prelude.{ℕ, ◌-◌, ◌==◌, nat_lt, min, Bool, true, false, not, ◌&&◌, if◌then◌else◌, Option, Some}
use Rattle.std.specs.Prelude.{None, List, [], ◌∷◌, ◌++◌, length, take, drop}
use Rattle.nio_base.specs.declared.kind.Kind.TheVariants.{Source, Sink}
use Rattle.nio_base.specs.declared.limits.Limits.{Limits}
use Rattle.nio_base.specs.declared.numbers.CallerNo.{CallerNo}
use Rattle.nio_base.specs.declared.numbers.ChanId.{ChanId}
use Rattle.nio_history.specs.Sets.{is_open_channel}
use Rattle.nio_history.specs.State.{State}
use Rattle.nio_language.specs.declared.reply.Reply.{Reply}
use Rattle.nio_language.specs.declared.reply.Reply.TheVariants as reply
use Rattle.nio_plain.specs.ScriptState.{Pipe, ScriptState, with_pipes}
use Rattle.nio_plain.specs.Seq.Replies.{Replied, unchanged, replied}
use Rattle.nio_plain.specs.Seq.Cancelling.{channel_closed}
use Rattle.nio_plain.specs.Seq.Names.{with_named_channel}
use Rattle.nio_plain.specs.Seq.Opening.{channel_made, next_channel}
use Rattle.nio_plain.specs.Seq.Pipes.{own_source, own_sink, pipe_at, with_pipe, sealing}
use Rattle.nio_plain.specs.declared.rules.Rules.{Rules}

-- ---- making

-- a pipe in which nothing waits
abbrev pub new_pipe : CallerNo → CallerNo → ChanId → ChanId → Pipe
new_pipe reader writer source sink = record {
  source = source;
  sink = sink;
  reader = reader;
  writer = writer;
  waiting = [];
  sealed = false;
}

-- the source is made; where there is no number for a sink it is closed
abbrev pub with_sink : ScriptState → CallerNo → CallerNo → ChanId → Option ChanId → Replied
with_sink st me target source None = replied st reply.ChannelsSpent (channel_closed st.shared source.number.0)
with_sink st me target source (Some sink) = record {
  reply = reply.Ends source sink;
  left = with_pipes (channel_made st Sink (Some sink)).left (st.pipes ++ new_pipe me target source sink ∷ []);
}

abbrev pub with_source : Rules → Limits → ScriptState → CallerNo → CallerNo → Option ChanId → Replied
with_source rules l st me target None = unchanged st reply.ChannelsSpent
with_source rules l st me target (Some source) =
    let made = (channel_made st Source (Some source)).left in
    with_sink made me target source (next_channel rules l made.shared Sink)

-- the caller owns the source, the caller that it names the sink
unfoldable pub pipe_call : Rules → Limits → ScriptState → CallerNo → CallerNo → Replied
pipe_call rules l st me target =
    if nat_lt target.0 l.callers then with_source rules l st me target (next_channel rules l st.shared Source)
    else unchanged st reply.NoCaller

-- ---- reading

abbrev pub finds_interrupt : ScriptState → CallerNo → ChanId → Bool
finds_interrupt st me c = (st.shared.chan c.number.0).blocking && st.shared.interrupted me.0

-- the reply where nothing can be read or written now, by the channel's mode
abbrev pub not_now : Bool → Reply
not_now true = reply.Again
not_now false = reply.Number 0

-- up to n bytes of those that wait in the pipe at the place i, in this mode
abbrev pub read_first : ScriptState → Bool → ℕ → ℕ → List ℕ → Bool → Replied
read_first st blocking n i [] false = unchanged st (not_now blocking)
read_first st blocking n i [] true = unchanged st reply.End
read_first st blocking n i (b ∷ bytes) sealed = record {
  reply = reply.Bytes (take n (b ∷ bytes));
  left = with_pipe st i (record (pipe_at st.pipes i) { waiting = drop n (b ∷ bytes) });
}

-- of the pipe at a place
abbrev pub read_from : ScriptState → CallerNo → ChanId → ℕ → Option ℕ → Replied
read_from st me c n None = unchanged st reply.NotOwner
read_from st me c n (Some i) =
    if not (is_open_channel (st.shared.chan c.number.0) c.serial) then unchanged st reply.ClosedChannel
    else if finds_interrupt st me c then replied st reply.ClosedByInterrupt (channel_closed st.shared c.number.0)
    else if n == 0 then unchanged st (reply.Number 0)
    else read_first st (st.shared.chan c.number.0).blocking n i (pipe_at st.pipes i).waiting (pipe_at st.pipes i).sealed

unfoldable pub pread_call : ScriptState → CallerNo → ChanId → ℕ → Replied
pread_call st me c n = with_named_channel st c (read_from st me c n (own_source st.pipes me c))

-- ---- writing

-- so many of the bytes have room
abbrev pub room_for : List ℕ → Pipe → ℕ
room_for bytes p = min (length bytes) (65536 - length p.waiting)

-- n of the bytes go into the pipe at the place i, in this mode
abbrev pub write_first : ScriptState → Bool → List ℕ → ℕ → ℕ → Replied
write_first st blocking bytes i n =
    if n == 0 then unchanged st (not_now blocking)
    else record {
      reply = reply.Number n;
      left = with_pipe st i (record (pipe_at st.pipes i) { waiting = (pipe_at st.pipes i).waiting ++ take n bytes });
    }

-- the pipe's source is open
abbrev pub has_open_source : State → Pipe → Bool
has_open_source st p = is_open_channel (st.chan p.source.number.0) p.source.serial

-- into the pipe at a place
abbrev pub write_to : ScriptState → CallerNo → ChanId → List ℕ → Option ℕ → Replied
write_to st me c bytes None = unchanged st reply.NotOwner
write_to st me c bytes (Some i) =
    if not (is_open_channel (st.shared.chan c.number.0) c.serial)
    then sealing (Some i) (unchanged st reply.ClosedChannel)
    else if finds_interrupt st me c
    then sealing (Some i) (replied st reply.ClosedByInterrupt (channel_closed st.shared c.number.0))
    else if not (has_open_source st.shared (pipe_at st.pipes i)) then unchanged st reply.BrokenPipe
    else if length bytes == 0 then unchanged st (reply.Number 0)
    else write_first st (st.shared.chan c.number.0).blocking bytes i (room_for bytes (pipe_at st.pipes i))

unfoldable pub pwrite_call : ScriptState → CallerNo → ChanId → List ℕ → Replied
pwrite_call st me c bytes = with_named_channel st c (write_to st me c bytes (own_sink st.pipes me c))
