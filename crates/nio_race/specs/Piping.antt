-- Lines behind `go` on the bytes of pipes: which lines these are, what each says, and by which steps.
use Rattle.std.specs.Prelude.{◌≡◌, ◌≢◌, ℕ, ◌<◌, ◌≤◌, ◌==◌, Bool, true, false, Option, Some, None, Result, Ok, Err}
use Rattle.std.specs.Prelude.{List, [], length, map, filter, find}
use Rattle.nio_base.specs.declared.limits.Limits.{Limits}
use Rattle.nio_base.specs.declared.numbers.CallerNo.{CallerNo}
use Rattle.nio_base.specs.declared.numbers.ChanId.{ChanId}
use Rattle.nio_history.specs.declared.act.Act.{Act}
use Rattle.nio_language.specs.WordRows.{PipeUse, word_row}
use Rattle.nio_language.specs.declared.call.Call.{Call}
use Rattle.nio_language.specs.declared.reply.Reply.{Reply}
use Rattle.nio_language.specs.declared.reply.Reply.TheVariants as reply
use Rattle.nio_pipe.specs.Calls.{WaitsWhere}
use Rattle.nio_plain.specs.ScriptState.{Pipe}
use Rattle.nio_plain.specs.Seq.Pipes.{is_same_id}
use Rattle.nio_serial.specs.Documented.{Progress}
use Rattle.nio_serial.specs.Lines.{Said}
use Rattle.nio_serial.specs.Replies.{pipe_refusal}
use Rattle.nio_steps.specs.KeyCalls.{find_channel_plan}
use Rattle.nio_steps.specs.PipeCalls.{PipeEnds, try_read_plan, try_write_plan}
use Rattle.nio_steps.specs.Runs.{Completes}
use Rattle.nio_steps.specs.Waiting.{Then}
use Rattle.nio_steps.specs.declared.refusal.PipeError.{PipeError}
use Rattle.nio_steps.specs.declared.refusal.PipeError.TheVariants.{AsynchronousClose}

-- ---- which lines these are

abbrev pub use_of : Call → PipeUse
use_of word = (word_row word).on_pipe

-- ---- the ends that a caller owns

-- A caller's ends: the sources that it may read, and the sinks that it may write into, each with the source of its
-- pipe, in the order in which the pipes were made.
pub record OwnedEnds : Type 0 where
  pub sources : List ChanId
  pub sinks : List PipeEnds

abbrev pub ends_of_pipe : Pipe → PipeEnds
ends_of_pipe p = record { source = p.source; sink = p.sink }

-- of these pipes the caller's ends
abbrev pub own_ends : CallerNo → List Pipe → OwnedEnds
own_ends n pipes = record {
  sources = map (λ p. p.source) (filter (λ p. p.reader.0 == n.0) pipes);
  sinks = map ends_of_pipe (filter (λ p. p.writer.0 == n.0) pipes);
}

-- the caller's own source or sink with this channel
abbrev pub own_source : OwnedEnds → ChanId → Option ChanId
own_source ends c = find (λ x. is_same_id x c) ends.sources

abbrev pub own_sink : OwnedEnds → ChanId → Option PipeEnds
own_sink ends c = find (λ x. is_same_id x.sink c) ends.sinks

-- ---- what they say

-- The reply of a read of up to n bytes. The first argument says whether its last run of steps found neither a byte nor
-- the seal; the second is the answer of its steps: a refusal, or the mode that they found, true for blocking. In
-- blocking mode a read that finds neither goes on, so no line here has that. A read that asks for nothing doesn't wait,
-- so it never says that its channel was closed meanwhile.
pub data ReadSays (n : ℕ) : Bool → Result Bool PipeError → Reply → Type 0 where
  is_refused : {none : Bool} (refusal : PipeError) → (refusal ≡ AsynchronousClose → 0 < n)
      → ReadSays n none (Err refusal) (pipe_refusal refusal)
  asks_for_nothing : {blocking : Bool} → n ≡ 0 → ReadSays n false (Ok blocking) (reply.Number 0)
  gives : {blocking : Bool} (bytes : List ℕ)
      → 0 < length bytes → length bytes ≤ n → ReadSays n false (Ok blocking) (reply.Bytes bytes)
  tells_end : {blocking : Bool} → 0 < n → ReadSays n false (Ok blocking) reply.End
  finds_nothing : 0 < n → ReadSays n true (Ok false) (reply.Number 0)

-- The same of a write of these bytes, which goes on in blocking mode where it finds no free place.
pub data WriteSays (bytes : List ℕ) : Bool → Result Bool PipeError → Reply → Type 0 where
  is_refused : {none : Bool} (refusal : PipeError) → (refusal ≡ AsynchronousClose → 0 < length bytes)
      → WriteSays bytes none (Err refusal) (pipe_refusal refusal)
  offers_nothing : {blocking : Bool} → bytes ≡ [] → WriteSays bytes false (Ok blocking) (reply.Number 0)
  takes : {blocking : Bool} (taken : ℕ)
      → 0 < taken → taken ≤ length bytes → WriteSays bytes false (Ok blocking) (reply.Number taken)
  finds_no_place : 0 < length bytes → WriteSays bytes true (Ok false) (reply.Number 0)

-- ---- by which steps

-- The acts are those of a read that waits, of one try where it asks for nothing, and the reply is one that its answer
-- allows.
pub record ReadsTo (l : Limits) (c : ChanId) (n : ℕ) (acts : List Act) (r : Reply) : Type 0 where
  pub none : Bool
  pub answer : Result Bool PipeError
  pub waits : WaitsWhere (λ before. before ≢ 0 → 0 < n) (try_read_plan l c) none acts answer
  pub says : ReadSays n none answer r

pub record WritesTo (l : Limits) (ends : PipeEnds) (bytes : List ℕ) (acts : List Act) (r : Reply) : Type 0 where
  pub none : Bool
  pub answer : Result Bool PipeError
  pub waits : WaitsWhere (λ before. before ≢ 0 → 0 < length bytes) (try_write_plan l ends.source ends.sink) none
      acts answer
  pub says : WriteSays bytes none answer r

-- no further step is made: the line has this reply, and changes nothing in progress
abbrev pub Refuses : Progress → Reply → List Act → Said → Type 0
Refuses now r acts said = (acts ≡ []) × (said ≡ record { reply = r; left = now })

-- a read, by whether the caller owns the source
abbrev pub ReadsOwn : Limits → Progress → ChanId → ℕ → Option ChanId → List Act → Said → Type 0
ReadsOwn l now c n None acts said = Refuses now reply.NotOwner acts said
ReadsOwn l now c n (Some own) acts said = ReadsTo l c n acts said.reply × (said.left ≡ now)

-- a read, by whether the channel was found
abbrev pub ReadsFound : Limits → OwnedEnds → Progress → ChanId → ℕ → Option ChanId → List Act → Said → Type 0
ReadsFound l ends now c n None acts said = Refuses now reply.NoChannel acts said
ReadsFound l ends now c n (Some found) acts said = ReadsOwn l now c n (own_source ends c) acts said

-- the channel is looked up, and then the caller reads
abbrev pub LooksAndReads : Limits → OwnedEnds → Progress → ChanId → ℕ → List Act → Said → Type 0
LooksAndReads l ends now c n = Then (Completes (find_channel_plan l c.number.0 c.serial)) (ReadsFound l ends now c n)

abbrev pub WritesOwn : Limits → Progress → List ℕ → Option PipeEnds → List Act → Said → Type 0
WritesOwn l now bytes None acts said = Refuses now reply.NotOwner acts said
WritesOwn l now bytes (Some own) acts said = WritesTo l own bytes acts said.reply × (said.left ≡ now)

abbrev pub WritesFound : Limits → OwnedEnds → Progress → ChanId → List ℕ → Option ChanId → List Act → Said → Type 0
WritesFound l ends now c bytes None acts said = Refuses now reply.NoChannel acts said
WritesFound l ends now c bytes (Some found) acts said = WritesOwn l now bytes (own_sink ends c) acts said

abbrev pub LooksAndWrites : Limits → OwnedEnds → Progress → ChanId → List ℕ → List Act → Said → Type 0
LooksAndWrites l ends now c bytes =
    Then (Completes (find_channel_plan l c.number.0 c.serial)) (WritesFound l ends now c bytes)
