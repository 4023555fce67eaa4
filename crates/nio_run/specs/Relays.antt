-- How the commands that relay end, and what they say.
use Rattle.std.specs.Prelude.{◌≡◌, ◌⊎◌, ℕ, List}
use Rattle.nio_bytes.specs.Cause.{Rose}
use Rattle.nio_bytes.specs.declared.sink.Sink as sink
use Rattle.nio_script.specs.Output.{IsWritten, WritesPrefix}
use Rattle.nio_script.specs.declared.status.Status.{Status}
use Rattle.nio_script.specs.declared.status.Status.TheVariants.{Done, Usage, BadScript, ReadFault, WriteFault, Memory}
use Rattle.nio_script.specs.declared.status.Status.TheVariants.{NetFault, Illegal, TooLong}

-- how `proxy` and `packets` may end
abbrev pub EndsRelay : Status → Type 0
EndsRelay Done = Unit {0}
EndsRelay Usage = ⊥
EndsRelay (BadScript line) = ⊥
EndsRelay ReadFault = ⊥
EndsRelay WriteFault = Unit {0}
EndsRelay Memory = Unit {0}
EndsRelay NetFault = Unit {0}
EndsRelay (Illegal line) = ⊥
EndsRelay TooLong = ⊥

-- the line was written and flushed, or some of it and the sink failed, or there was no memory for it
pub record SaysLine {K : Type 0} (k : sink.Ghosts K) (line : List ℕ) (output output' : K)
    (status : Status) : Type 0 where
  pub done : status ≡ Done → IsWritten k output output' line × (k.faults output' ≡ k.faults output)
  pub write_fault : status ≡ WriteFault → WritesPrefix k output output' line
      × Rose (k.faults output) (k.faults output')
  pub memory : status ≡ Memory → output' ≡ output
  pub ends : (status ≡ Done) ⊎ ((status ≡ WriteFault) ⊎ (status ≡ Memory))
