-- What `load` does.
use Rattle.std.specs.Prelude.{◌≡◌, ◌⊎◌, ℕ, List}
use Rattle.nio_bytes.specs.Cause.{Rose}
use Rattle.nio_bytes.specs.declared.sink.Sink as sink
use Rattle.nio_language.specs.Script.{IsScript}
use Rattle.nio_language.specs.declared.call.ScriptCall.{ScriptCall}
use Rattle.nio_load.specs.Generator.{generated}
use Rattle.nio_load.specs.Load.{EndsLoad}
use Rattle.nio_load.specs.Summary.{summary_of}
use Rattle.nio_plain.specs.declared.rules.Rules.TheVariants.{Now}
use Rattle.nio_script.specs.Output.{IsWritten, WritesPrefix}
use Rattle.nio_script.specs.declared.status.Status.{Status}
use Rattle.nio_script.specs.declared.status.Status.TheVariants.{Done, WriteFault, Memory}
use Rattle.nio_words.specs.Passes.{IsPassOf, limits_of}
use Rattle.nio_words.specs.declared.words.Pass.{Pass}
use Rattle.nio_words.specs.declared.words.Words.{Words}
use Rattle.nio_run.specs.Commands.{IsUndrawn, MakesAllOn, StopsWithinOn}

-- These are the calls of the generated script of so many rounds; they were made, and nothing else.
pub record IsLoadedOn (w : Words) (pass : Pass) (rounds : ℕ) (calls : List ScriptCall) : Type 0 where
  pub script : IsScript (generated rounds) calls
  pub makes : MakesAllOn w pass calls

-- The generated script was run, and its summary was written and flushed; no write failed.
pub record IsSummedOn {K : Type 0} (k : sink.Ghosts K) (w : Words) (rounds : ℕ) (output output' : K)
    (pass : Pass) : Type 0 where
  pub calls : List ScriptCall
  pub loaded : IsLoadedOn w pass rounds calls
  pub written : IsWritten k output output' (summary_of Now (limits_of w) calls)
  pub still : k.faults output' ≡ k.faults output

-- The generated script was run, and some of its summary was written, from its front.
pub record IsHalfSummedOn {K : Type 0} (k : sink.Ghosts K) (w : Words) (rounds : ℕ) (output output' : K)
    (pass : Pass) : Type 0 where
  pub calls : List ScriptCall
  pub loaded : IsLoadedOn w pass rounds calls
  pub written : WritesPrefix k output output' (summary_of Now (limits_of w) calls)

-- Nothing was written, and some calls of the generated script were made, from the first one on, and nothing else.
pub record IsUnsummedOn {K : Type 0} (w : Words) (rounds : ℕ) (output output' : K) (pass : Pass) : Type 0 where
  pub calls : List ScriptCall
  pub script : IsScript (generated rounds) calls
  pub made : List ScriptCall
  pub stops : StopsWithinOn w pass calls made
  pub unwritten : output' ≡ output

-- What `load` does for so many rounds where it ends with this status.
pub record DoesLoad {K : Type 0} (k : sink.Ghosts K) (w : Words) (rounds : ℕ) (output output' : K) (pass pass' : Pass)
    (status : Status) : Type 0 where
  pub done : status ≡ Done → IsSummedOn k w rounds output output' pass'
  pub write_fault : status ≡ WriteFault → IsHalfSummedOn k w rounds output output' pass'
  pub memory : status ≡ Memory → IsUndrawn output output' pass pass' ⊎ IsUnsummedOn w rounds output output' pass'
  pub ends : EndsLoad status
  -- whatever the status, the pass is still one of the table
  pub kept : IsPassOf w pass'
  -- the script is run and summed up where no count of faults rises and there is memory
  pub complete : ¬ Rose (k.faults output) (k.faults output') → (status ≡ Done) ⊎ (status ≡ Memory)
