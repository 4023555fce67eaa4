-- What a caller does in a line after `go`, and what the line says.
use Rattle.std.specs.Prelude.{◌≡◌, ⊤, ℕ, ◌++◌, Bool, true, false, ◌&&◌, Option, Some, None, Ok, List, [], ◌∷◌, All}
use Rattle.std.specs.List.{Contains}
use Rattle.nio_base.specs.declared.limits.Limits.{Limits}
use Rattle.nio_base.specs.declared.numbers.CallerNo.{CallerNo}
use Rattle.nio_base.specs.declared.numbers.SelNo.{SelNo}
use Rattle.nio_history.specs.declared.act.Act.{Act}
use Rattle.nio_history.specs.declared.act.Act.TheVariants.{Mark}
use Rattle.nio_history.specs.declared.found.Mark.{Mark as KeyMark}
use Rattle.nio_history.specs.declared.found.Mode.TheVariants.{Wait}
use Rattle.nio_language.specs.WordRows.{PipeUse, closes, neither, reads, word_row, writes}
use Rattle.nio_language.specs.declared.call.Call.{Call}
use Rattle.nio_language.specs.declared.reply.Reply.{Reply}
use Rattle.nio_language.specs.declared.reply.Reply.TheVariants as reply
use Rattle.nio_race_text.specs.RaceLines.{MayRace}
use Rattle.nio_race_text.specs.declared.call.RaceCall.{RaceCall}
use Rattle.nio_race_text.specs.declared.call.RaceCall.TheVariants.{Script, Block}
use Rattle.nio_race_text.specs.declared.call.RaceLine.{RaceLine}
use Rattle.nio_serial.specs.Documented.{Progress}
use Rattle.nio_serial.specs.Lines.{Said, line_plan, with_selection}
use Rattle.nio_steps.specs.KeyCalls.{find_selector_plan}
use Rattle.nio_steps.specs.Runs.{Completes}
use Rattle.nio_steps.specs.SelectCalls.{Poll, SelectReply, selected, not_begun, left, MakesSelection}
use Rattle.nio_steps.specs.Waiting.{Retries, Then}
use Rattle.nio_steps.specs.declared.refusal.BeginError.TheVariants.{ClosedSelector, Busy, Memory}
use Rattle.nio_race.specs.Piping.{LooksAndReads, LooksAndWrites, OwnedEnds, use_of}

-- ---- a call that scripts have too

-- the reply of a call that found another caller at work
abbrev pub is_busy : Reply → Bool
is_busy (reply.Selector s) = false
is_busy (reply.Channel c) = false
is_busy (reply.Key k) = false
is_busy (reply.Number n) = false
is_busy (reply.Names names) = false
is_busy reply.Ok = false
is_busy reply.Yes = false
is_busy reply.No = false
is_busy reply.None = false
is_busy (reply.Looked pairs) = false
is_busy (reply.Selected count why) = false
is_busy reply.Again = false
is_busy reply.Left = false
is_busy reply.Already = false
is_busy reply.Closing = false
is_busy reply.Closed = false
is_busy reply.SelectorsSpent = false
is_busy reply.ChannelsSpent = false
is_busy reply.ClosedChannel = false
is_busy reply.IllegalBlockingMode = false
is_busy reply.IllegalOps = false
is_busy reply.CancelledKey = false
is_busy reply.ClosedSelector = false
is_busy reply.Full = false
is_busy reply.Busy = true
is_busy reply.NegativeTimeout = false
is_busy reply.NotSelecting = false
is_busy reply.NotClosing = false
is_busy reply.NoCaller = false
is_busy reply.NoSelector = false
is_busy reply.NoChannel = false
is_busy reply.NoKey = false
is_busy (reply.Ends source sink) = false
is_busy (reply.Bytes bytes) = false
is_busy reply.End = false
is_busy reply.NotOwner = false
is_busy reply.ClosedByInterrupt = false
is_busy reply.AsyncClose = false
is_busy reply.BrokenPipe = false
is_busy (reply.Group answer) = false

-- The line with this reply is made again: its call waits for a hold, and found that another caller has it.
abbrev pub waits_for_hold : Call → Reply → Bool
waits_for_hold word r = (word_row word).waits_for_hold && is_busy r

abbrev pub is_made_again : Call → Said → Bool
is_made_again word said = waits_for_hold word said.reply

-- A line is its look-ups and its call. One whose call waits for a hold is made again while another caller has it.
abbrev pub MakesScriptLine : Limits → Progress → CallerNo → Call → List Act → Said → Type 0
MakesScriptLine l now me word acts said = Retries (Completes (line_plan l now me word)) (is_made_again word) acts said

-- ---- `block`

-- What the line says and leaves where the selection ended so. Its poller never fails, and want of memory ends the
-- thread instead. Where a selection ended the caller has none in progress there: one that it had begun before holds the
-- turn, so that this one would wait for ever.
abbrev pub BlockSays : Progress → SelNo → SelectReply → Said → Type 0
BlockSays now s (selected answer) said =
    said ≡ record { reply = reply.Selected answer.count answer.why; left = with_selection now s None }
BlockSays now s (not_begun ClosedSelector) said = said ≡ record { reply = reply.ClosedSelector; left = now }
BlockSays now s (not_begun Busy) said = ⊥
BlockSays now s (not_begun Memory) said = ⊥
BlockSays now s left said = ⊥

-- the poller told of no key
abbrev pub TellsNothing : Poll → Type 0
TellsNothing poll = poll.pairs ≡ []

-- A selection without a limit of time, once the selector is found. Its polls tell nothing, so it marks no key.
pub record Blocks (now : Progress) (s : SelNo) (acts : List Act) (said : Said) : Type 0 where
  pub polls : List Poll
  pub answer : SelectReply
  pub selects : MakesSelection s Wait None polls acts answer
  pub untold : All TellsNothing polls
  pub unmarked : (x : SelNo) (i told : ℕ) (from : KeyMark) → Contains acts (Mark x i from told (Ok tt)) → ⊥
  pub says : BlockSays now s answer said

-- how the line goes on once the selector was looked up
abbrev pub BlocksOnFound : Progress → SelNo → Option SelNo → List Act → Said → Type 0
BlocksOnFound now s None acts said = (acts ≡ []) × (said ≡ record { reply = reply.NoSelector; left = now })
BlocksOnFound now s (Some found) acts said = Blocks now s acts said

-- the selector is looked up, and then the caller selects there
abbrev pub LooksAndBlocks : Limits → Progress → SelNo → List Act → Said → Type 0
LooksAndBlocks l now s = Then (Completes (find_selector_plan l s.0)) (BlocksOnFound now s)

-- ---- the lines of a caller

-- the call may stand behind `go`
abbrev pub MayRaceLine : RaceCall → Type 0
MayRaceLine (Script word) = MayRace word
MayRaceLine (Block s) = ⊤

abbrev pub MayRaceLines : List RaceLine → Type 0
MayRaceLines race = All (λ line. MayRaceLine line.call) race

-- A line whose call scripts have too. A read or a write is a call that waits in blocking mode; every other line is
-- made as `MakesScriptLine` says.
abbrev pub MakesCalledLine : Limits → OwnedEnds → Progress → CallerNo → Call → PipeUse → List Act → Said → Type 0
MakesCalledLine l ends now me word (reads c n) acts said = LooksAndReads l ends now c n acts said
MakesCalledLine l ends now me word (writes c bytes) acts said = LooksAndWrites l ends now c bytes acts said
MakesCalledLine l ends now me word (closes c) acts said = MakesScriptLine l now me word acts said
MakesCalledLine l ends now me word neither acts said = MakesScriptLine l now me word acts said

abbrev pub MakesRaceLine : Limits → OwnedEnds → Progress → CallerNo → RaceCall → List Act → Said → Type 0
MakesRaceLine l ends now me (Script word) acts said = MakesCalledLine l ends now me word (use_of word) acts said
MakesRaceLine l ends now me (Block s) acts said = LooksAndBlocks l now s acts said

-- the acts and the replies are those of a line and then of others, which begin with what the line leaves in progress
pub record LineAnd (Line : List Act → Said → Type 0) (Others : Progress → List Act → List Reply → Type 0)
    (acts : List Act) (replies : List Reply) : Type 0 where
  pub first : List Act
  pub said : Said
  pub line : Line first said
  pub later : List Act
  pub later_replies : List Reply
  pub others : Others said.left later later_replies
  pub parts : acts ≡ first ++ later
  pub reply_parts : replies ≡ said.reply ∷ later_replies

-- The caller, which owns these ends of pipes, made these lines, one after the other: what it did, the reply of each,
-- and what is in progress at last.
abbrev pub AreRaceLines : Limits → OwnedEnds → CallerNo → Progress → List RaceCall → List Act → List Reply → Progress
    → Type 0
AreRaceLines l ends me now [] acts replies last = (acts ≡ []) × (replies ≡ []) × (last ≡ now)
AreRaceLines l ends me now (line ∷ later) acts replies last =
    LineAnd (MakesRaceLine l ends now me line)
    (λ then acts' replies'. AreRaceLines l ends me then later acts' replies' last)
    acts replies
