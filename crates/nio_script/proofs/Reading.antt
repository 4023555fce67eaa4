-- What is kept while an input is read.
use Rattle.std.proofs.Common.{◌≡◌, ℕ, ◌+◌, ◌-◌, ◌<◌, ◌≤◌, List, ◌++◌, length, refl, sym, ap, ◌∙◌, length-append, arith}
use Rattle.std.specs.Prelude.{Result, Ok, Err, IsErrOf, IsErrAnd}
use Rattle.std.specs.Io.KnownBytes.{prepend_known}
use Rattle.nio_script.specs.declared.status.Status.{Status}
use Rattle.nio_script.specs.declared.status.Status.TheVariants.{Memory, TooLong}
use Rattle.nio_bytes.specs.declared.source.Source as source
use Rattle.nio_script.specs.declared.input.TheConstants.{LONGEST_INPUT}
use Rattle.nio_script.specs.Input.{StopsPastLongest}
use Rattle.nio_script.proofs.Bytes.{prepend_known-append}

-- These bytes were taken, and no read failed.
pub record HasRead {S : Type 0} (s : source.Ghosts S) (old now : S) (input : List ℕ) : Type 0 where
  pub fits : length input ≤ LONGEST_INPUT
  pub taken : s.left old ≡ prepend_known input (s.left now)
  pub still : s.faults now ≡ s.faults old

module _ {S : Type 0} (s : source.Ghosts S) (old mid now : S) (input piece : List ℕ) (before : HasRead s old mid input)
    (read : s.left mid ≡ prepend_known piece (s.left now)) where
  -- one more read
  pub taken_more : s.left old ≡ prepend_known (input ++ piece) (s.left now)
  taken_more = before.taken ∙ ap (prepend_known input) read ∙ sym (prepend_known-append input piece (s.left now))

  -- a read that fits
  pub has_read_more : length piece ≤ LONGEST_INPUT - length input → s.faults now ≡ s.faults mid
      → HasRead s old now (input ++ piece)
  has_read_more fits still = record {
    fits = omega (arith, length-append input piece, before.fits);
    taken = taken_more;
    still = still ∙ before.still;
  }

  -- a read that fits, and no byte too many
  pub stops_within : (P : Type 0) → ¬ P → length piece ≤ LONGEST_INPUT - length input → StopsPastLongest s old now P
  stops_within P not_long fits = record {
    count = length (input ++ piece);
    taken = record { bytes = input ++ piece; taken = taken_more; counted = refl };
    few = omega (arith, length-append input piece, before.fits);
    exactly = (λ p. absurd (not_long p), λ e. absurd (omega (arith, length-append input piece, before.fits, e)));
  }

  -- a read that takes the one byte too many
  pub stops_past : (P : Type 0) → P → length piece ≤ LONGEST_INPUT + 1 - length input
      → LONGEST_INPUT - length input < length piece → StopsPastLongest s old now P
  stops_past P long most past = record {
    count = length (input ++ piece);
    taken = record { bytes = input ++ piece; taken = taken_more; counted = refl };
    few = omega (arith, length-append input piece, before.fits);
    exactly = (λ _. omega (arith, length-append input piece, before.fits), λ _. long);
  }

-- a call that lacks memory doesn't say that the input is too long
pub lacks_memory : {T : Type 0} (r : Result T Status) → IsErrAnd r (λ status. status ≡ Memory) → ¬ IsErrOf r TooLong
lacks_memory (Ok x) h = λ e. absurd h
lacks_memory (Err status) h = λ e. cc
