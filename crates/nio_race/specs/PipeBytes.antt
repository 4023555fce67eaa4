-- The bytes of a pipe in a race, by the lines that are written: what was read from it, and what was written into it.
use Rattle.std.specs.Prelude.{◌≡◌, ℕ, ◌+◌, ◌≤◌, ◌==◌, Bool, true, false, ◌&&◌, ◌||◌, IsTrue, if◌then◌else◌, List, []}
use Rattle.std.specs.Prelude.{◌∷◌, map}
use Rattle.std.specs.Prelude.{filter, take, zip, flat_map, length, Contains}
use mathlib.Core.List.{IsPrefix}
use Rattle.nio_base.specs.declared.limits.Limits.{Limits}
use Rattle.nio_base.specs.declared.numbers.CallerNo.{CallerNo}
use Rattle.nio_base.specs.declared.numbers.ChanId.{ChanId}
use Rattle.nio_language.specs.WordRows.{PipeUse, closes, neither, reads, writes}
use Rattle.nio_language.specs.declared.call.Call.TheVariants as call
use Rattle.nio_language.specs.declared.call.ScriptCall.{ScriptCall}
use Rattle.nio_language.specs.declared.reply.Reply.{Reply}
use Rattle.nio_language.specs.declared.reply.Reply.TheVariants as reply
use Rattle.nio_plain.specs.ScriptState.{script_opening}
use Rattle.nio_plain.specs.Seq.Pipes.{is_same_id}
use Rattle.nio_race_text.specs.declared.call.RaceCall.{RaceCall}
use Rattle.nio_race_text.specs.declared.call.RaceCall.TheVariants.{Script, Block}
use Rattle.nio_serial.specs.Serial.{replies_from}
use Rattle.nio_race.specs.Piping.{use_of}

-- ---- of one line

-- the bytes that a reply prints
abbrev pub bytes_of : Reply → List ℕ
bytes_of (reply.Selector s) = []
bytes_of (reply.Channel c) = []
bytes_of (reply.Key k) = []
bytes_of (reply.Number n) = []
bytes_of (reply.Names names) = []
bytes_of reply.Ok = []
bytes_of reply.Yes = []
bytes_of reply.No = []
bytes_of reply.None = []
bytes_of (reply.Looked pairs) = []
bytes_of (reply.Selected count why) = []
bytes_of reply.Again = []
bytes_of reply.Left = []
bytes_of reply.Already = []
bytes_of reply.Closing = []
bytes_of reply.Closed = []
bytes_of reply.SelectorsSpent = []
bytes_of reply.ChannelsSpent = []
bytes_of reply.ClosedChannel = []
bytes_of reply.IllegalBlockingMode = []
bytes_of reply.IllegalOps = []
bytes_of reply.CancelledKey = []
bytes_of reply.ClosedSelector = []
bytes_of reply.Full = []
bytes_of reply.Busy = []
bytes_of reply.NegativeTimeout = []
bytes_of reply.NotSelecting = []
bytes_of reply.NotClosing = []
bytes_of reply.NoCaller = []
bytes_of reply.NoSelector = []
bytes_of reply.NoChannel = []
bytes_of reply.NoKey = []
bytes_of (reply.Ends source sink) = []
bytes_of (reply.Bytes bytes) = bytes
bytes_of reply.End = []
bytes_of reply.NotOwner = []
bytes_of reply.ClosedByInterrupt = []
bytes_of reply.AsyncClose = []
bytes_of reply.BrokenPipe = []
bytes_of (reply.Group answer) = []

-- the number of a reply that is a number, as that of a `pwrite`; of any other 0
abbrev pub number_of : Reply → ℕ
number_of (reply.Selector s) = 0
number_of (reply.Channel c) = 0
number_of (reply.Key k) = 0
number_of (reply.Number n) = n
number_of (reply.Names names) = 0
number_of reply.Ok = 0
number_of reply.Yes = 0
number_of reply.No = 0
number_of reply.None = 0
number_of (reply.Looked pairs) = 0
number_of (reply.Selected count why) = 0
number_of reply.Again = 0
number_of reply.Left = 0
number_of reply.Already = 0
number_of reply.Closing = 0
number_of reply.Closed = 0
number_of reply.SelectorsSpent = 0
number_of reply.ChannelsSpent = 0
number_of reply.ClosedChannel = 0
number_of reply.IllegalBlockingMode = 0
number_of reply.IllegalOps = 0
number_of reply.CancelledKey = 0
number_of reply.ClosedSelector = 0
number_of reply.Full = 0
number_of reply.Busy = 0
number_of reply.NegativeTimeout = 0
number_of reply.NotSelecting = 0
number_of reply.NotClosing = 0
number_of reply.NoCaller = 0
number_of reply.NoSelector = 0
number_of reply.NoChannel = 0
number_of reply.NoKey = 0
number_of (reply.Ends source sink) = 0
number_of (reply.Bytes bytes) = 0
number_of reply.End = 0
number_of reply.NotOwner = 0
number_of reply.ClosedByInterrupt = 0
number_of reply.AsyncClose = 0
number_of reply.BrokenPipe = 0
number_of (reply.Group answer) = 0

-- Of a `closec` or a `pwrite`: once its line has this reply, the channel is closed. (`Closed` is of a selector.)
abbrev pub says_closed : Reply → Bool
says_closed (reply.Selector s) = false
says_closed (reply.Channel c) = false
says_closed (reply.Key k) = false
says_closed (reply.Number n) = false
says_closed (reply.Names names) = false
says_closed reply.Ok = true
says_closed reply.Yes = false
says_closed reply.No = false
says_closed reply.None = false
says_closed (reply.Looked pairs) = false
says_closed (reply.Selected count why) = false
says_closed reply.Again = false
says_closed reply.Left = false
says_closed reply.Already = true
says_closed reply.Closing = false
says_closed reply.Closed = false
says_closed reply.SelectorsSpent = false
says_closed reply.ChannelsSpent = false
says_closed reply.ClosedChannel = true
says_closed reply.IllegalBlockingMode = false
says_closed reply.IllegalOps = false
says_closed reply.CancelledKey = false
says_closed reply.ClosedSelector = false
says_closed reply.Full = false
says_closed reply.Busy = false
says_closed reply.NegativeTimeout = false
says_closed reply.NotSelecting = false
says_closed reply.NotClosing = false
says_closed reply.NoCaller = false
says_closed reply.NoSelector = false
says_closed reply.NoChannel = false
says_closed reply.NoKey = false
says_closed (reply.Ends source sink) = false
says_closed (reply.Bytes bytes) = false
says_closed reply.End = false
says_closed reply.NotOwner = false
says_closed reply.ClosedByInterrupt = true
says_closed reply.AsyncClose = true
says_closed reply.BrokenPipe = false
says_closed (reply.Group answer) = false

-- what a line read from this channel, by its reply
abbrev pub read_by : ChanId → PipeUse → Reply → List ℕ
read_by c (reads x n) r = if is_same_id x c then bytes_of r else []
read_by c (writes x bytes) r = []
read_by c (closes x) r = []
read_by c neither r = []

-- what a line wrote into this channel, by its reply: so many of its bytes, from their front
abbrev pub written_by : ChanId → PipeUse → Reply → List ℕ
written_by c (reads x n) r = []
written_by c (writes x bytes) r = if is_same_id x c then take (number_of r) bytes else []
written_by c (closes x) r = []
written_by c neither r = []

-- A line of a sink's owner leaves the seal, by its reply: it closes the sink, or a write finds or makes it closed.
abbrev pub seals_by : ChanId → PipeUse → Reply → Bool
seals_by c (reads x n) r = false
seals_by c (writes x bytes) r = is_same_id x c && says_closed r
seals_by c (closes x) r = is_same_id x c && says_closed r
seals_by c neither r = false

abbrev pub read_in : ChanId → RaceCall → Reply → List ℕ
read_in c (Script word) r = read_by c (use_of word) r
read_in c (Block s) r = []

abbrev pub written_in : ChanId → RaceCall → Reply → List ℕ
written_in c (Script word) r = written_by c (use_of word) r
written_in c (Block s) r = []

abbrev pub seals_in : ChanId → RaceCall → Reply → Bool
seals_in c (Script word) r = seals_by c (use_of word) r
seals_in c (Block s) r = false

-- ---- of lines with their replies

abbrev pub all_read : ChanId → List (RaceCall × Reply) → List ℕ
all_read c lines = flat_map (λ x. read_in c x.0 x.1) lines

abbrev pub all_written : ChanId → List (RaceCall × Reply) → List ℕ
all_written c lines = flat_map (λ x. written_in c x.0 x.1) lines

-- one of the lines leaves the seal of this sink
abbrev pub leave_seal : ChanId → List (RaceCall × Reply) → Bool
leave_seal c [] = false
leave_seal c (x ∷ later) = seals_in c x.0 x.1 || leave_seal c later

-- a read of this channel told the end
abbrev pub TellsEnd : ChanId → List (RaceCall × Reply) → Type 0
TellsEnd c lines = (n : ℕ) × Contains lines (Script (call.Pread c n), reply.End)

-- ---- of a pipe

-- The caller's lines of the setup, with the replies of the documented system to the setup. Those are the replies that
-- are written, and those of the setup's steps (`serial_law` of `nio_serial`).
abbrev pub setup_lines : CallerNo → Limits → List ScriptCall → List (RaceCall × Reply)
setup_lines n l setup =
    map (λ x. (Script x.0.call, x.1))
    (filter (λ x. x.0.caller.0 == n.0) (zip setup (replies_from l script_opening setup)))

-- Of a pipe, by the lines of its reader and by those of its writer, the setup's first: what was read begins what was
-- written, and at most 65,536 bytes wait. Where a read told the end, all was read, and a line of the writer leaves the
-- seal. Nothing is said of the order between the lines of two callers.
pub record KeepsBytes (source sink : ChanId) (readers writers : List (RaceCall × Reply)) : Type 0 where
  pub in_order : IsPrefix (all_read source readers) (all_written sink writers)
  pub few : length (all_written sink writers) ≤ length (all_read source readers) + 65536
  pub whole : TellsEnd source readers → all_read source readers ≡ all_written sink writers
  pub ended : TellsEnd source readers → IsTrue (leave_seal sink writers)
