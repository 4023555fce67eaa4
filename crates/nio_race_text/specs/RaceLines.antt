-- The lines behind `go`: which bytes are a call of which caller there.
use Rattle.std.specs.Prelude.{◌≡◌, ℕ, ◌<◌, IsTrue, List, [], ◌∷◌, codes}
use Rattle.std.specs.List.{join_with_byte}
use Rattle.nio_base.specs.declared.numbers.CallerNo.{CallerNo}
use Rattle.nio_base.specs.declared.numbers.SelNo.{SelNo}
use Rattle.nio_language.specs.Calls.{IsBlank, IsLine, call_words}
use Rattle.nio_language.specs.WordRows.{word_row}
use Rattle.nio_language.specs.Words.{IsNumber, caller_word, selector_word}
use Rattle.nio_language.specs.declared.call.Call.{Call}
use Rattle.nio_race_text.specs.declared.call.RaceCall.{RaceCall}
use Rattle.nio_race_text.specs.declared.call.RaceCall.TheVariants.{Script, Block}
use Rattle.nio_race_text.specs.declared.call.RaceLine.{RaceLine}

-- a script's call may stand behind `go`
abbrev pub MayRace : Call → Type 0
MayRace word = IsTrue (word_row word).may_race

-- a call's word and its arguments
abbrev pub race_words : RaceCall → List (List ℕ)
race_words (Script c) = call_words c
race_words (Block s) = codes "block" ∷ selector_word s ∷ []

-- These bytes are `tN block sM`: its numbers fit, and each word stands after one space. So it has
-- fewer than 4,096 bytes.
pub record IsBlockLine (caller : CallerNo) (s : SelNo) (bytes : List ℕ) : Type 0 where
  pub caller_fits : caller.0 < 64
  pub selector_fits : IsNumber s.0
  pub text : bytes ≡ join_with_byte 32 (caller_word caller ∷ race_words (Block s))

-- these bytes are a line behind `go` with this call of this caller
pub data IsRaceLine : CallerNo → RaceCall → List ℕ → Type 0 where
  script_line : {caller : CallerNo} {c : Call} {line : List ℕ}
      → IsLine caller c line → MayRace c → IsRaceLine caller (Script c) line
  block_line : {caller : CallerNo} {s : SelNo} {line : List ℕ}
      → IsBlockLine caller s line → IsRaceLine caller (Block s) line

-- lines behind `go` are these calls in this order, and blank lines among them
pub data AreRaceLines : List (List ℕ) → List RaceLine → Type 0 where
  no_lines : AreRaceLines [] []
  blank_line : {line : List ℕ} {lines : List (List ℕ)} {race : List RaceLine}
      → IsBlank line → AreRaceLines lines race → AreRaceLines (line ∷ lines) race
  race_line : {line : List ℕ} {lines : List (List ℕ)} {caller : CallerNo} {c : RaceCall} {race : List RaceLine}
      → IsRaceLine caller c line → AreRaceLines lines race
      → AreRaceLines (line ∷ lines) (record { caller = caller; call = c } ∷ race)
