-- What a load does to its sink and its system.
use Rattle.std.specs.Prelude.{◌≡◌, ℕ, List}
use Rattle.nio_bytes.specs.declared.sink.Sink as sink
use Rattle.nio_language.specs.Script.{IsScript}
use Rattle.nio_language.specs.declared.call.ScriptCall.{ScriptCall}
use Rattle.nio_plain.specs.Answer.{left_by_script}
use Rattle.nio_plain.specs.declared.system.System as system
use Rattle.nio_script.specs.Output.{IsWritten, WritesPrefix}
use Rattle.nio_script.specs.Run.{MakesAll, StopsWithin}
use Rattle.nio_script.specs.declared.status.Status.{Status}
use Rattle.nio_script.specs.declared.status.Status.TheVariants.{Done, Usage, BadScript, ReadFault, WriteFault, Memory}
use Rattle.nio_script.specs.declared.status.Status.TheVariants.{NetFault, Illegal, TooLong}
use Rattle.nio_load.specs.Generator.{generated}
use Rattle.nio_load.specs.Summary.{summary_of}

-- These are the calls of the generated script of so many rounds; they were made, and the system is left as they leave it.
pub record IsLoaded {Y : Type 0} (y : system.Ghosts Y) (run run' : Y) (rounds : ℕ)
    (calls : List ScriptCall) : Type 0 where
  pub script : IsScript (generated rounds) calls
  pub makes : MakesAll y run run' calls
  pub left : y.state run' ≡ left_by_script (y.rules run) (y.limits run) calls

-- The generated script was run, and its summary was written and flushed; no write failed.
pub record IsSummed {K Y : Type 0} (k : sink.Ghosts K) (y : system.Ghosts Y) (output output' : K) (run run' : Y)
    (rounds : ℕ) : Type 0 where
  pub calls : List ScriptCall
  pub loaded : IsLoaded y run run' rounds calls
  pub written : IsWritten k output output' (summary_of (y.rules run) (y.limits run) calls)
  pub still : k.faults output' ≡ k.faults output

-- The generated script was run, and some of its summary was written, from its front.
pub record IsHalfSummed {K Y : Type 0} (k : sink.Ghosts K) (y : system.Ghosts Y) (output output' : K) (run run' : Y)
    (rounds : ℕ) : Type 0 where
  pub calls : List ScriptCall
  pub loaded : IsLoaded y run run' rounds calls
  pub written : WritesPrefix k output output' (summary_of (y.rules run) (y.limits run) calls)

-- Nothing was written, and some calls of the generated script were made, from the first one on.
pub record IsUnsummed {K Y : Type 0} (y : system.Ghosts Y) (output output' : K) (run run' : Y) (rounds : ℕ)
    : Type 0 where
  pub calls : List ScriptCall
  pub script : IsScript (generated rounds) calls
  pub made : List ScriptCall
  pub stops : StopsWithin y run run' calls made
  pub unwritten : output' ≡ output

-- how a load may end
abbrev pub EndsLoad : Status → Type 0
EndsLoad Done = Unit {0}
EndsLoad Usage = ⊥
EndsLoad (BadScript line) = ⊥
EndsLoad ReadFault = ⊥
EndsLoad WriteFault = Unit {0}
EndsLoad Memory = Unit {0}
EndsLoad NetFault = ⊥
EndsLoad (Illegal line) = ⊥
EndsLoad TooLong = ⊥
