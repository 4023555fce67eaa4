-- Race texts: which bytes are a race text of which calls, and where the first line stands that isn't
-- in the grammar at its place.
use Rattle.std.specs.Prelude.{◌≡◌, ◌⊎◌, ℕ, ◌+◌, List, [], ◌∷◌, ◌++◌, length, codes}
use Rattle.nio_language.specs.Calls.{IsBlank}
use Rattle.nio_language.specs.Script.{AreCalls, IsInGrammar, lines_of}
use Rattle.nio_language.specs.declared.call.ScriptCall.{ScriptCall}
use Rattle.nio_race_text.specs.RaceLines.{AreRaceLines, IsRaceLine}
use Rattle.nio_race_text.specs.declared.call.RaceLine.{RaceLine}

-- the calls of a race text: those of the setup, before `go`, and those of the race, behind it
pub record RaceCalls : Type 0 where
  pub setup : List ScriptCall
  pub race : List RaceLine

-- the line that ends the setup
abbrev pub go_line : List ℕ
go_line = codes "go"

-- Lines are a race text of these calls: the setup, and nothing more or a line `go` and the race. The
-- lines of the setup are a script's. Neither part has a line `go`.
pub data AreRaceText : List (List ℕ) → List ScriptCall → List RaceLine → Type 0 where
  setup_alone : {front : List (List ℕ)} {setup : List ScriptCall}
      → AreCalls front setup → AreRaceText front setup []
  with_go : {front back : List (List ℕ)} {setup : List ScriptCall} {race : List RaceLine}
      → AreCalls front setup → AreRaceLines back race → AreRaceText (front ++ go_line ∷ back) setup race

-- a text is a race text of these calls
abbrev pub IsRaceText : List ℕ → List ScriptCall → List RaceLine → Type 0
IsRaceText text setup race = AreRaceText (lines_of text) setup race

-- lines are a race text of some calls
abbrev pub AreSomeRaceText : List (List ℕ) → Type 0
AreSomeRaceText lines = (setup : List ScriptCall) × (race : List RaceLine) × AreRaceText lines setup race

-- Line number n, counted from 1 over all lines, is the first that isn't in the grammar at its place:
-- the lines before it are a race text, and with it they aren't.
pub record IsFirstBadRace (text : List ℕ) (n : ℕ) : Type 0 where
  pub line : List ℕ
  pub before : List (List ℕ)
  pub after : List (List ℕ)
  pub lines : lines_of text ≡ before ++ line ∷ after
  pub number : length before + 1 ≡ n
  pub good : AreSomeRaceText before
  pub bad : ¬ AreSomeRaceText (before ++ line ∷ [])

-- A line is in the grammar before `go`: it is in that of scripts, or `go` itself.
abbrev pub IsInSetup : List ℕ → Type 0
IsInSetup line = IsInGrammar line ⊎ (line ≡ go_line)

-- A line is in the grammar behind `go`: it is blank, or a call of a caller that may stand there.
abbrev pub IsInRace : List ℕ → Type 0
IsInRace line = IsBlank line ⊎ ((r : RaceLine) × IsRaceLine r.caller r.call line)
