-- What the writing of output does to its sink.
use Rattle.std.specs.Prelude.{◌≡◌, ◌⊎◌, ℕ, List, ◌++◌, take, IfSome, IsTrue}
use Rattle.std.specs.Io.KnownBytes.{append_known}
use Rattle.nio_bytes.specs.Cause.{Rose}
use Rattle.nio_bytes.specs.declared.sink.Sink as sink

-- The sink took exactly these bytes, where it shows its bytes.
abbrev pub Writes : {K : Type 0} → sink.Ghosts K → K → K → List ℕ → Type 0
Writes k old new bytes = k.taken new ≡ append_known (k.taken old) bytes

-- The sink took some of these bytes from their front, where it shows its bytes.
abbrev pub WritesPrefix : {K : Type 0} → sink.Ghosts K → K → K → List ℕ → Type 0
WritesPrefix k old new bytes = (count : ℕ) × Writes k old new (take count bytes)

-- The sink took exactly these bytes and was flushed after them, where it shows that.
pub record IsWritten {K : Type 0} (k : sink.Ghosts K) (old new : K) (bytes : List ℕ)
    : Type 0 where
  pub taken : Writes k old new bytes
  pub flushed : IfSome (k.flushed new) IsTrue

-- These bytes were written and flushed, or some from their front and the sink failed.
abbrev pub WritesOrFails : {K : Type 0} → sink.Ghosts K → K → K → List ℕ → Type 0
WritesOrFails k output output' bytes =
    IsWritten k output output' bytes
    ⊎ (WritesPrefix k output output' bytes × Rose (k.faults output) (k.faults output'))

-- Some bytes were written; with what is kept back now they are what was kept back and the line.
pub record Gathers {K : Type 0} (k : sink.Ghosts K) (old new : K)
    (kept kept' line : List ℕ) : Type 0 where
  pub bytes : List ℕ
  pub written : Writes k old new bytes
  pub rest : bytes ++ kept' ≡ kept ++ line
