-- What lines behind `go` find in a pipe, at least: what stood there at `go`, and what its two owners found since. A
-- read gives all bytes that its reader knows to wait, as far as it asks for them; a write takes all bytes for which
-- its writer knows of room.
use Rattle.std.specs.Prelude.{◌≡◌, ◌≢◌, ℕ, ◌-◌, ◌<◌, ◌≤◌, min, Bool, true, false, IsFalse, if◌then◌else◌, List, []}
use Rattle.std.specs.Prelude.{◌∷◌, length, drop}
use Rattle.nio_base.specs.declared.numbers.ChanId.{ChanId}
use Rattle.nio_language.specs.WordRows.{PipeUse, closes, neither, reads, writes}
use Rattle.nio_language.specs.declared.reply.Reply.{Reply}
use Rattle.nio_language.specs.declared.reply.Reply.TheVariants as reply
use Rattle.nio_plain.specs.ScriptState.{Pipe}
use Rattle.nio_race_text.specs.declared.call.RaceCall.{RaceCall}
use Rattle.nio_race_text.specs.declared.call.RaceCall.TheVariants.{Script, Block}
use Rattle.nio_serial.specs.Replies.{pipe_refusal}
use Rattle.nio_steps.specs.declared.refusal.PipeError.{PipeError}
use Rattle.nio_steps.specs.declared.refusal.PipeError.TheVariants.{AsynchronousClose}
use Rattle.nio_race.specs.Piping.{use_of}

-- ---- a reader

-- What a reader knows of its pipe, at least: these bytes wait; the seal was left; a read told the end.
pub record Awaited : Type 0 where
  pub bytes : List ℕ
  pub sealed : Bool
  pub ended : Bool

-- at `go`: what waits there, and whether the seal was left
abbrev pub awaited_at_go : Pipe → Awaited
awaited_at_go p = record { bytes = p.waiting; sealed = p.sealed; ended = false }

-- A read of up to n bytes has to wait where its reader knows so much: it asks for a byte, and knows of none and of no
-- seal.
pub record HasToWait (n : ℕ) (before : Awaited) : Type 0 where
  pub asks : 0 < n
  pub no_byte : before.bytes ≡ []
  pub no_seal : IsFalse before.sealed

-- What a read of up to n bytes may reply where its reader knows so much, and what it knows then. The reply is 0 only
-- where it asks for nothing or knows of nothing, and `async-close` only where it has to wait. Once a read told the end,
-- no byte comes.
pub data ReadFinds (n : ℕ) (before : Awaited) : Reply → Awaited → Type 0 where
  gives : (bytes : List ℕ) → IsFalse before.ended → min (min 65536 n) (length before.bytes) ≤ length bytes
      → ReadFinds n before (reply.Bytes bytes) (record before { bytes = drop (length bytes) before.bytes })
  tells_end : before.bytes ≡ [] → ReadFinds n before reply.End (record { bytes = []; sealed = true; ended = true })
  asks_for_nothing : n ≡ 0 → ReadFinds n before (reply.Number 0) before
  finds_nothing : before.bytes ≡ [] → IsFalse before.sealed → ReadFinds n before (reply.Number 0) before
  is_refused : (refusal : PipeError) → (refusal ≡ AsynchronousClose → HasToWait n before)
      → ReadFinds n before (pipe_refusal refusal) before
  has_no_channel : ReadFinds n before reply.NoChannel before
  is_not_owner : ReadFinds n before reply.NotOwner before

-- a line of the reader of this source: each that isn't a read of it leaves what is known
abbrev pub UseFinds : ChanId → PipeUse → Reply → Awaited → Awaited → Type 0
UseFinds c (reads x n) r before after = (x ≡ c → ReadFinds n before r after) × (x ≢ c → after ≡ before)
UseFinds c (writes x bytes) r before after = after ≡ before
UseFinds c (closes x) r before after = after ≡ before
UseFinds c neither r before after = after ≡ before

abbrev pub LineFinds : ChanId → RaceCall → Reply → Awaited → Awaited → Type 0
LineFinds c (Script word) r before after = UseFinds c (use_of word) r before after
LineFinds c (Block s) r before after = after ≡ before

-- its lines, one after the other
abbrev pub LinesFind : ChanId → List (RaceCall × Reply) → Awaited → Awaited → Type 0
LinesFind c [] before after = after ≡ before
LinesFind c (x ∷ later) before after =
    (between : Awaited) × (LineFinds c x.0 x.1 before between × LinesFind c later between after)

-- ---- a writer

-- for how many bytes the writer knows of room at `go`, at least
abbrev pub room_at_go : Pipe → ℕ
room_at_go p = if p.sealed then 0 else 65536 - length p.waiting

-- What a write of these bytes may reply where its writer knows of room for so many, at least, and of how much it knows
-- then. It takes fewer than it was given only where it takes all for which there was room. `async-close` is the reply
-- only where it had bytes and no room was known. A refused write leaves nothing known.
pub data WriteFinds (bytes : List ℕ) (room : ℕ) : Reply → ℕ → Type 0 where
  takes : (taken : ℕ) → (taken < length bytes → room ≤ taken)
      → WriteFinds bytes room (reply.Number taken) (room - taken)
  is_refused : (refusal : PipeError) → (refusal ≡ AsynchronousClose → (0 < length bytes) × (room ≡ 0))
      → WriteFinds bytes room (pipe_refusal refusal) 0
  has_no_channel : WriteFinds bytes room reply.NoChannel room
  is_not_owner : WriteFinds bytes room reply.NotOwner room

-- a line of the writer of this sink: behind its closing no room is known
abbrev pub UseTakes : ChanId → PipeUse → Reply → ℕ → ℕ → Type 0
UseTakes c (reads x n) r before after = after ≡ before
UseTakes c (writes x bytes) r before after =
    (x ≡ c → WriteFinds bytes before r after) × (x ≢ c → after ≡ before)
UseTakes c (closes x) r before after = (x ≡ c → after ≡ 0) × (x ≢ c → after ≡ before)
UseTakes c neither r before after = after ≡ before

abbrev pub LineTakes : ChanId → RaceCall → Reply → ℕ → ℕ → Type 0
LineTakes c (Script word) r before after = UseTakes c (use_of word) r before after
LineTakes c (Block s) r before after = after ≡ before

-- its lines, one after the other
abbrev pub LinesTake : ChanId → List (RaceCall × Reply) → ℕ → ℕ → Type 0
LinesTake c [] before after = after ≡ before
LinesTake c (x ∷ later) before after =
    (between : ℕ) × (LineTakes c x.0 x.1 before between × LinesTake c later between after)

-- ---- of a pipe

-- By the lines of its reader and those of its writer, behind `go`.
pub record FindsAll (p : Pipe) (readers writers : List (RaceCall × Reply)) : Type 0 where
  pub reads : (last : Awaited) × LinesFind p.source readers (awaited_at_go p) last
  pub takes : (last : ℕ) × LinesTake p.sink writers (room_at_go p) last
