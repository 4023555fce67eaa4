-- What the setup of a race leaves.
use Rattle.std.specs.Prelude.{◌≡◌, ℕ, ◌++◌, IsTrue, List, [], All, Ok}
use Rattle.nio_base.specs.declared.limits.Limits.{Limits}
use Rattle.nio_language.specs.Replies.{history_line}
use Rattle.nio_language.specs.declared.call.ScriptCall.{ScriptCall}
use Rattle.nio_language.specs.declared.reply.Reply.{Reply}
use Rattle.nio_plain.specs.ScriptState.{Pipe}
use Rattle.nio_sole.specs.Said.{SaysLine}
use Rattle.nio_sole.specs.ScriptLines.{AreScriptLines}
use Rattle.nio_sole.specs.Stands.{Stands, progress_of}
use Rattle.nio_sole.specs.declared.desk.Desk.{Desk}
use Rattle.nio_words.specs.Passes.{limits_of, seen}
use Rattle.nio_words.specs.declared.words.Words.{Words}
use Rattle.nio_race.specs.Ends.{ArePipes}
use Rattle.nio_race.specs.PipeBytes.{TellsEnd, all_read, all_written, leave_seal, setup_lines}

-- What the desk's pass has seen is the setup, and the desk has in progress what that leaves.
pub record HasSetUp (w : Words) (d : Desk) (setup : List ScriptCall) : Type 0 where
  pub stands : Stands w d
  pub set_up : AreScriptLines (limits_of w) setup (seen d.pass) (progress_of d)

-- At `go` the pipe has what the setup's lines of its owners say: what they wrote and didn't read waits in it, and it
-- is sealed where one of them left the seal. Where a read told the end, the pipe is sealed and nothing waits.
pub record KeepsPipeOfSetup (l : Limits) (setup : List ScriptCall) (p : Pipe) : Type 0 where
  pub bytes : all_read p.source (setup_lines p.reader l setup) ++ p.waiting
      ≡ all_written p.sink (setup_lines p.writer l setup)
  pub seal : p.sealed ≡ leave_seal p.sink (setup_lines p.writer l setup)
  pub told : TellsEnd p.source (setup_lines p.reader l setup) → IsTrue p.sealed × (p.waiting ≡ [])

pub record KeepsSetup (l : Limits) (setup : List ScriptCall) (pipes : List Pipe) : Type 0 where
  pub are_pipes : ArePipes l pipes
  pub each : All (KeepsPipeOfSetup l setup) pipes

-- the line was made, and its history was added to the text
pub record SaysAndWrites (w : Words) (old new : Desk) (number : ℕ) (line : ScriptCall)
    (before after : List ℕ) : Type 0 where
  pub reply : Reply
  pub says : SaysLine w old new line.caller line.call (Ok reply)
  pub writes : after ≡ before ++ history_line number line.caller line.call reply
