-- What `race` does to its input, its output and its table.
use Rattle.std.specs.Prelude.{◌≡◌, ◌⊎◌, ℕ, ◌<◌, ◌≤◌, List, length, IfSome}
use Rattle.nio_base.specs.declared.numbers.CallerNo.{CallerNo}
use Rattle.nio_bytes.specs.Cause.{Rose}
use Rattle.nio_bytes.specs.declared.sink.Sink as sink
use Rattle.nio_bytes.specs.declared.source.Source as source
use Rattle.nio_language.specs.declared.call.ScriptCall.{ScriptCall}
use Rattle.nio_language.specs.declared.reply.Reply.{Reply}
use Rattle.nio_race_text.specs.RaceText.{IsFirstBadRace, IsRaceText}
use Rattle.nio_race_text.specs.declared.call.RaceLine.{RaceLine}
use Rattle.nio_script.specs.Output.{IsWritten, WritesOrFails, WritesPrefix}
use Rattle.nio_script.specs.Run.{EndsScript, ReadsText, bad_line}
use Rattle.nio_script.specs.declared.input.TheConstants.{LONGEST_INPUT}
use Rattle.nio_script.specs.declared.status.Status.{Status}
use Rattle.nio_script.specs.declared.status.Status.TheVariants.{BadScript, Done, Memory, ReadFault, TooLong, WriteFault}
use Rattle.nio_words.specs.Passes.{IsPassOf, IsReady, limits_of, seen}
use Rattle.nio_words.specs.declared.words.Pass.{Pass}
use Rattle.nio_words.specs.declared.words.Words.{Words}
use Rattle.nio_race.specs.Race.{IsRace, race_output}

-- The setup was made and each caller made its lines, with these replies: all that the pass has seen. It holds each
-- number, so every thread has returned.
pub record HasRunRace (w : Words) (pass : Pass) (setup : List ScriptCall) (race : List RaceLine)
    (replies : CallerNo → List Reply) : Type 0 where
  pub raced : IsRace (limits_of w) setup race (seen pass) replies
  pub holds : (n : CallerNo) → n.0 < (limits_of w).callers → IsReady w pass n

-- The text is a race text, its race was run, its output was written and flushed, and no write failed.
pub record IsRaced {K : Type 0} (k : sink.Ghosts K) (w : Words) (output output' : K) (pass : Pass)
    (text : List ℕ) : Type 0 where
  pub setup : List ScriptCall
  pub race : List RaceLine
  pub race_text : IsRaceText text setup race
  pub replies : CallerNo → List Reply
  pub run : HasRunRace w pass setup race replies
  pub written : IsWritten k output output' (race_output (limits_of w) setup race replies)
  pub still : k.faults output' ≡ k.faults output

-- The text is a race text, its race was run, and some of its output was written, from its front.
pub record IsRaceCutShort {K : Type 0} (k : sink.Ghosts K) (w : Words) (output output' : K) (pass : Pass)
    (text : List ℕ) : Type 0 where
  pub setup : List ScriptCall
  pub race : List RaceLine
  pub race_text : IsRaceText text setup race
  pub replies : CallerNo → List Reply
  pub run : HasRunRace w pass setup race replies
  pub written : WritesPrefix k output output' (race_output (limits_of w) setup race replies)

-- The line is the text's first that isn't in the grammar, which was said, and no call was made.
pub record IsRaceRefused {K : Type 0} (k : sink.Ghosts K) (output output' : K) (pass pass' : Pass) (line : ℕ)
    (text : List ℕ) : Type 0 where
  pub first : IsFirstBadRace text line
  pub said : WritesOrFails k output output' (bad_line line)
  pub uncalled : pass' ≡ pass

-- Nothing was written, and no call was made.
pub record IsRaceUntouched {K : Type 0} (output output' : K) (pass pass' : Pass) : Type 0 where
  pub unwritten : output' ≡ output
  pub uncalled : pass' ≡ pass

-- What `race` does where it ends with this status. It ends with those that a script ends with.
pub record DoesRace {S K : Type 0} (s : source.Ghosts S) (k : sink.Ghosts K) (w : Words) (input input' : S)
    (output output' : K) (pass pass' : Pass) (status : Status) : Type 0 where
  -- what each status says
  pub done : status ≡ Done → ReadsText s input input' (IsRaced k w output output' pass')
  pub bad_script : (line : ℕ) → status ≡ BadScript line
      → ReadsText s input input' (IsRaceRefused k output output' pass pass' line)
  pub write_fault : status ≡ WriteFault → ReadsText s input input' (IsRaceCutShort k w output output' pass')
  pub memory : status ≡ Memory → output' ≡ output
  pub unread : (status ≡ ReadFault) ⊎ (status ≡ TooLong) → IsRaceUntouched output output' pass pass'
  pub ends : EndsScript status
  -- whatever the status, the pass is still one of the table
  pub kept : IsPassOf w pass'
  -- what comes of each text, where the source shows it
  pub of_race : IfSome (s.left input) (λ text. (setup : List ScriptCall) (race : List RaceLine)
      → length text ≤ LONGEST_INPUT → IsRaceText text setup race
      → (status ≡ Done) ⊎ (status ≡ ReadFault) ⊎ (status ≡ WriteFault) ⊎ (status ≡ Memory))
  pub of_bad : IfSome (s.left input) (λ text. (line : ℕ)
      → length text ≤ LONGEST_INPUT → IsFirstBadRace text line
      → (status ≡ BadScript line) ⊎ (status ≡ ReadFault) ⊎ (status ≡ Memory))
  pub of_long : IfSome (s.left input) (λ text. LONGEST_INPUT < length text
      → (status ≡ TooLong) ⊎ (status ≡ ReadFault) ⊎ (status ≡ Memory))
  -- a race that returns is answered where no count of faults rises and there is memory
  pub complete : IfSome (s.left input) (λ text. (setup : List ScriptCall) (race : List RaceLine)
      → length text ≤ LONGEST_INPUT → IsRaceText text setup race
      → ¬ Rose (s.faults input) (s.faults input') → ¬ Rose (k.faults output) (k.faults output')
      → (status ≡ Done) ⊎ (status ≡ Memory))
