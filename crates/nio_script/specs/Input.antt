-- What the reading of an input does to its source.
use Rattle.std.specs.Prelude.{◌≡◌, ℕ, ◌+◌, ◌≤◌, ◌↔◌, List, length, IfSome}
use Rattle.std.specs.Io.KnownBytes.{prepend_known, IsAtEnd}
use Rattle.nio_bytes.specs.Cause.{Rose}
use Rattle.nio_bytes.specs.declared.source.Source as source
use Rattle.nio_script.specs.declared.input.TheConstants.{LONGEST_INPUT}

-- The source was read to its end and no read failed: where it shows its bytes, the input is all
-- that were to come, and none is left.
pub record IsReadWhole {S : Type 0} (s : source.Ghosts S) (old new : S) (input : List ℕ)
    : Type 0 where
  pub fits : length input ≤ LONGEST_INPUT
  pub whole : IfSome (s.left old) (λ bytes. bytes ≡ input)
  pub ended : IsAtEnd (s.left new)
  pub still : s.faults new ≡ s.faults old

-- So many bytes were taken from the source, where it shows its bytes.
pub record Takes {S : Type 0} (s : source.Ghosts S) (old new : S) (count : ℕ) : Type 0 where
  pub bytes : List ℕ
  pub taken : s.left old ≡ prepend_known bytes (s.left new)
  pub counted : length bytes ≡ count

-- No more than one byte past the longest input was taken, and that one exactly where the input is
-- said to be too long.
pub record StopsPastLongest {S : Type 0} (s : source.Ghosts S) (old new : S) (too_long : Type 0)
    : Type 0 where
  pub count : ℕ
  pub taken : Takes s old new count
  pub few : count ≤ LONGEST_INPUT + 1
  pub exactly : too_long ↔ (count ≡ LONGEST_INPUT + 1)

-- The count of faults rose where a fault is told, and stands still where none is.
pub record CausesFault (before now : ℕ) (fault : Type 0) : Type 0 where
  pub later : before ≤ now
  pub rose : fault → Rose before now
  pub still : ¬ fault → now ≡ before
