-- What the running of a timed script does to its source and its sink.
use Rattle.std.specs.Prelude.{◌≡◌, ℕ, List}
use Rattle.nio_bytes.specs.declared.sink.Sink as sink
use Rattle.nio_script.specs.Output.{IsWritten, WritesOrFails, WritesPrefix}
use Rattle.nio_script.specs.Run.{bad_line}
use Rattle.nio_timed.specs.Called.{timed_answer_to}
use Rattle.nio_timed.specs.Lines.{IsFirstBadTimed, IsTimedScript}
use Rattle.nio_timed.specs.declared.call.TimedLine.{TimedLine}

-- The text is a timed script, its history was written and flushed, and no write failed.
pub record IsTimed {K : Type 0} (k : sink.Ghosts K) (output output' : K) (text : List ℕ) : Type 0 where
  pub calls : List TimedLine
  pub script : IsTimedScript text calls
  pub written : IsWritten k output output' (timed_answer_to calls)
  pub still : k.faults output' ≡ k.faults output

-- The text is a timed script, and some of its history was written, from its front.
pub record IsTimedInPart {K : Type 0} (k : sink.Ghosts K) (output output' : K) (text : List ℕ) : Type 0 where
  pub calls : List TimedLine
  pub script : IsTimedScript text calls
  pub written : WritesPrefix k output output' (timed_answer_to calls)

-- The line is the text's first that isn't in the grammar, which was said.
pub record IsUntimed {K : Type 0} (k : sink.Ghosts K) (output output' : K) (line : ℕ) (text : List ℕ) : Type 0 where
  pub first : IsFirstBadTimed text line
  pub said : WritesOrFails k output output' (bad_line line)
