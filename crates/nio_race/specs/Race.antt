-- A race: a setup of lines one after the other, and then callers that run beside each other.
use Rattle.std.specs.Prelude.{◌≡◌, ℕ, zero, suc, ◌+◌, ◌<◌, ◌≤◌, ◌==◌, ◌++◌, if◌then◌else◌, Option, Some, None}
use Rattle.std.specs.Prelude.{List, [], ◌∷◌, map, filter, zip, All}
use mathlib.Core.List.{IsPrefix}
use Rattle.nio_base.specs.declared.limits.Limits.{Limits}
use Rattle.nio_base.specs.declared.numbers.CallerNo.{CallerNo}
use Rattle.nio_history.specs.Histories.{IsLegal, mine}
use Rattle.nio_history.specs.declared.act.Act.{Act}
use Rattle.nio_history.specs.declared.event.Event.{Event}
use Rattle.nio_language.specs.declared.call.ScriptCall.{ScriptCall}
use Rattle.nio_language.specs.declared.reply.Reply.{Reply}
use Rattle.nio_language.specs.declared.reply.Reply.TheVariants as reply
use Rattle.nio_orderly.specs.Orderly.{IsWhole}
use Rattle.nio_orderly.specs.Owed.{Owed}
use Rattle.nio_plain.specs.Answer.{answer_to}
use Rattle.nio_plain.specs.ScriptState.{Pipe}
use Rattle.nio_plain.specs.Seq.Selections.{is_caller}
use Rattle.nio_plain.specs.declared.rules.Rules.TheVariants.{Now}
use Rattle.nio_race_text.specs.declared.call.RaceCall.{RaceCall}
use Rattle.nio_race_text.specs.declared.call.RaceLine.{RaceLine}
use Rattle.nio_race_text.specs.RaceOutput.{race_line_text}
use Rattle.nio_serial.specs.Documented.{Progress, Selecting, nothing_yet}
use Rattle.nio_sole.specs.ScriptLines.{AreScriptLines}
use Rattle.nio_race.specs.PipeBytes.{KeepsBytes, setup_lines}
use Rattle.nio_race.specs.PipeFinds.{FindsAll}
use Rattle.nio_race.specs.Piping.{own_ends}
use Rattle.nio_race.specs.Runs.{AreRaceLines}

-- ---- the callers after `go`

-- the calls of a caller among these lines
abbrev pub calls_by : CallerNo → List RaceLine → List RaceCall
calls_by n race = map (λ line. line.call) (filter (λ line. line.caller.0 == n.0) race)

abbrev pub own_selection_of : CallerNo → Option Selecting → Option Selecting
own_selection_of n None = None
own_selection_of n (Some x) = if x.caller.0 == n.0 then Some x else None

-- What of this the caller has in progress. It makes no call on the group. Its ends of pipes stand beside (`own_ends`).
abbrev pub own_progress : CallerNo → Progress → Progress
own_progress n now = record nothing_yet {
  selection = λ s. own_selection_of n (now.selection s);
  closing = λ s. if is_caller n (now.closing s) then now.closing s else None;
}

-- The caller went on after `go`: it made its lines, with these replies, and nothing else, beginning with what it had in
-- progress there, and with the ends of pipes that it owned there.
pub record HasRun (l : Limits) (n : CallerNo) (go : List Event) (now : Progress) (calls : List RaceCall)
    (history : List Event) (replies : List Reply) : Type 0 where
  pub acts : List Act
  pub grew : mine n history ≡ mine n go ++ acts
  pub last : Progress
  pub lines : AreRaceLines l (own_ends n now.pipes) n (own_progress n now) calls acts replies last

-- what a line says of a caller whose number isn't below the limit
abbrev pub strange_replies : List RaceCall → List Reply
strange_replies calls = map (λ _. reply.NoCaller) calls

-- the caller's lines behind `go`, with their replies
abbrev pub lines_by : CallerNo → List RaceLine → (CallerNo → List Reply) → List (RaceCall × Reply)
lines_by n race replies = zip (calls_by n race) (replies n)

-- the lines of a pipe's two owners keep its bytes
abbrev pub KeepsPipe : Limits → List ScriptCall → List RaceLine → (CallerNo → List Reply) → Pipe → Type 0
KeepsPipe l setup race replies p =
    KeepsBytes p.source p.sink
    (setup_lines p.reader l setup ++ lines_by p.reader race replies)
    (setup_lines p.writer l setup ++ lines_by p.writer race replies)

-- the lines of its two owners behind `go` find what is there
abbrev pub FindsInPipe : List RaceLine → (CallerNo → List Reply) → Pipe → Type 0
FindsInPipe race replies p = FindsAll p (lines_by p.reader race replies) (lines_by p.writer race replies)

-- A race of this setup and these lines, with these replies of each caller's lines.
pub record IsRace (l : Limits) (setup : List ScriptCall) (race : List RaceLine) (history : List Event)
    (replies : CallerNo → List Reply) : Type 0 where
  -- the setup comes first, and `go` stands after it
  pub go : List Event
  pub now : Progress
  pub set_up : AreScriptLines l setup go now
  pub begins : IsPrefix go history
  -- each caller's lines
  pub run : (n : CallerNo) → n.0 < l.callers → HasRun l n go now (calls_by n race) history (replies n)
  pub strangers : (n : CallerNo) → l.callers ≤ n.0 → replies n ≡ strange_replies (calls_by n race)
  -- of each pipe that the setup made: its bytes, and what its lines find
  pub bytes : All (KeepsPipe l setup race replies) now.pipes
  pub finds : All (FindsInPipe race replies) now.pipes
  -- the history of all of them: each caller made whole calls, and at each moment what is owed is owed by a caller that
  -- has still to do it
  pub legal : IsLegal l history
  pub whole : ∥ IsWhole l history ∥₁
  pub owed : (before : List Event) → IsPrefix before history → ∥ Owed before ∥₁

-- ---- what is written

-- The lines of one caller with their replies, numbered from this number. In a race each line has its reply:
-- `AreRaceLines` and `strange_replies` have as many replies as lines. So no line and no reply is left out.
abbrev pub caller_text : CallerNo → ℕ → List RaceCall → List Reply → List ℕ
caller_text n number [] replies = []
caller_text n number (call ∷ later) [] = []
caller_text n number (call ∷ later) (r ∷ replies) =
    race_line_text n number call r ++ caller_text n (number + 1) later replies

-- the lines of the callers from number k up, so many of them
abbrev pub callers_text : ℕ → ℕ → List RaceLine → (CallerNo → List Reply) → List ℕ
callers_text k zero race replies = []
callers_text k (suc count) race replies =
    let n : CallerNo = record { 0 = k } in
    caller_text n 1 (calls_by n race) (replies n) ++ callers_text (k + 1) count race replies

-- the setup's history, and then each caller's lines, in rising order of the callers. A line names a caller below 64.
abbrev pub race_output : Limits → List ScriptCall → List RaceLine → (CallerNo → List Reply) → List ℕ
race_output l setup race replies = answer_to Now l setup ++ callers_text 0 64 race replies
