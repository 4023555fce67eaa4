-- What `timed` does.
use Rattle.std.specs.Prelude.{◌≡◌, ◌⊎◌, ℕ, ◌<◌, ◌≤◌, List, length, IfSome}
use Rattle.nio_bytes.specs.Cause.{Rose}
use Rattle.nio_bytes.specs.declared.source.Source as source
use Rattle.nio_bytes.specs.declared.sink.Sink as sink
use Rattle.nio_script.specs.Run.{EndsScript, ReadsText}
use Rattle.nio_script.specs.declared.input.TheConstants.{LONGEST_INPUT}
use Rattle.nio_script.specs.declared.status.Status.{Status}
use Rattle.nio_script.specs.declared.status.Status.TheVariants.{Done, BadScript, ReadFault, WriteFault, Memory, TooLong}
use Rattle.nio_timed.specs.Does.{IsTimed, IsTimedInPart, IsUntimed}
use Rattle.nio_timed.specs.Lines.{IsFirstBadTimed, IsTimedScript}
use Rattle.nio_timed.specs.declared.call.TimedLine.{TimedLine}

-- What `timed` does where it ends with this status. It makes its calls on a group of its own.
pub record DoesTimed {S K : Type 0} (s : source.Ghosts S) (k : sink.Ghosts K) (input input' : S) (output output' : K)
    (status : Status) : Type 0 where
  -- what each status says
  pub done : status ≡ Done → ReadsText s input input' (IsTimed k output output')
  pub bad_script : (line : ℕ) → status ≡ BadScript line → ReadsText s input input' (IsUntimed k output output' line)
  pub write_fault : status ≡ WriteFault → ReadsText s input input' (IsTimedInPart k output output')
  pub memory : status ≡ Memory → output' ≡ output
  pub unread : (status ≡ ReadFault) ⊎ (status ≡ TooLong) → output' ≡ output
  pub ends : EndsScript status
  -- what comes of each text, where the source shows it
  pub of_script : IfSome (s.left input) (λ text. (calls : List TimedLine)
      → length text ≤ LONGEST_INPUT → IsTimedScript text calls
      → (status ≡ Done) ⊎ (status ≡ ReadFault) ⊎ (status ≡ WriteFault) ⊎ (status ≡ Memory))
  pub of_bad : IfSome (s.left input) (λ text. (line : ℕ)
      → length text ≤ LONGEST_INPUT → IsFirstBadTimed text line
      → (status ≡ BadScript line) ⊎ (status ≡ ReadFault) ⊎ (status ≡ Memory))
  pub of_long : IfSome (s.left input) (λ text. LONGEST_INPUT < length text
      → (status ≡ TooLong) ⊎ (status ≡ ReadFault) ⊎ (status ≡ Memory))
  -- a timed script is answered where no count of faults rises and there is memory
  pub complete : IfSome (s.left input) (λ text. (calls : List TimedLine)
      → length text ≤ LONGEST_INPUT → IsTimedScript text calls
      → ¬ Rose (s.faults input) (s.faults input') → ¬ Rose (k.faults output) (k.faults output')
      → (status ≡ Done) ⊎ (status ≡ Memory))
