-- The pipes of a state: whose ends they are, and the seal.
use Rattle.std.specs.Prelude.{ℕ, ◌==◌, ◌&&◌, Bool, true, false, Option, Some, None, List, [], position, slice_index_or}
use Rattle.std.specs.Prelude.{slice_set}
use Rattle.nio_base.specs.declared.numbers.CallerNo.{CallerNo}
use Rattle.nio_base.specs.declared.numbers.ChanId.{ChanId}
use Rattle.nio_plain.specs.ScriptState.{Pipe, ScriptState, with_pipes}
use Rattle.nio_plain.specs.Seq.Replies.{Replied}

-- two names of one channel
abbrev pub is_same_id : ChanId → ChanId → Bool
is_same_id c d = (c.number.0 == d.number.0) && (c.serial == d.serial)

abbrev pub owns_source : CallerNo → ChanId → Pipe → Bool
owns_source me c p = is_same_id p.source c && (p.reader.0 == me.0)

abbrev pub owns_sink : CallerNo → ChanId → Pipe → Bool
owns_sink me c p = is_same_id p.sink c && (p.writer.0 == me.0)

-- the place of the pipe whose source, or whose sink, is this channel and the caller's own
abbrev pub own_source : List Pipe → CallerNo → ChanId → Option ℕ
own_source pipes me c = position (owns_source me c) pipes

abbrev pub own_sink : List Pipe → CallerNo → ChanId → Option ℕ
own_sink pipes me c = position (owns_sink me c) pipes

-- what `pipe_at` gives past the end
abbrev pub no_pipe : Pipe
no_pipe = record {
  source = record { number = record { 0 = 0 }; serial = 0 };
  sink = record { number = record { 0 = 0 }; serial = 0 };
  reader = record { 0 = 0 };
  writer = record { 0 = 0 };
  waiting = [];
  sealed = false;
}

abbrev pub pipe_at : List Pipe → ℕ → Pipe
pipe_at pipes i = slice_index_or pipes i no_pipe

-- the state with another pipe at a place
abbrev pub with_pipe : ScriptState → ℕ → Pipe → ScriptState
with_pipe st i p = with_pipes st (slice_set st.pipes i p)

-- the sink of the pipe at a place leaves its seal, where there is such a pipe
abbrev pub sealed_pipes : Option ℕ → List Pipe → List Pipe
sealed_pipes None pipes = pipes
sealed_pipes (Some i) pipes = slice_set pipes i (record (pipe_at pipes i) { sealed = true })

abbrev pub with_seal : Option ℕ → ScriptState → ScriptState
with_seal place st = with_pipes st (sealed_pipes place st.pipes)

abbrev pub sealing : Option ℕ → Replied → Replied
sealing place done = record done { left = with_seal place done.left }
