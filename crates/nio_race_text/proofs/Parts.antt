-- How the lines behind `go` grow by a line, and their last lines.
use Rattle.std.proofs.Common.{ℕ, List, [], ◌∷◌, ◌++◌}
use Rattle.nio_language.specs.Calls.{IsBlank}
use Rattle.nio_race_text.specs.RaceLines.{IsRaceLine, AreRaceLines, no_lines, blank_line, race_line}
use Rattle.nio_race_text.specs.declared.call.RaceLine.{RaceLine}
use Rattle.nio_script.specs.Entries.{IsNoLine}

-- lines behind others
pub AreRaceLines-append : {first rest : List (List ℕ)} {front back : List RaceLine}
    → AreRaceLines first front → AreRaceLines rest back → AreRaceLines (first ++ rest) (front ++ back)
AreRaceLines-append no_lines more = more
AreRaceLines-append (blank_line b others) more = blank_line b (AreRaceLines-append others more)
AreRaceLines-append (race_line is others) more = race_line is (AreRaceLines-append others more)

-- the last lines of some
pub AreRaceLines-behind : (xs ys : List (List ℕ)) (race : List RaceLine) → AreRaceLines (xs ++ ys) race
    → (rest : List RaceLine) × AreRaceLines ys rest
AreRaceLines-behind [] ys race are = (race, are)
AreRaceLines-behind (x ∷ xs) ys race (blank_line b are) = AreRaceLines-behind xs ys race are
AreRaceLines-behind (x ∷ xs) ys race (race_line {race = others} is are) = AreRaceLines-behind xs ys others are

pub no_race_line : {line : List ℕ} → (IsBlank line → ⊥) → ((r : RaceLine) → IsRaceLine r.caller r.call line → ⊥)
    → IsNoLine AreRaceLines line
no_race_line full bad calls (blank_line b _) = full b
no_race_line full bad calls (race_line {caller = caller} {c = c} is _) = bad (record { caller = caller; call = c }) is
