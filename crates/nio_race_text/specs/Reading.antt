-- Where the lines of a race text are cut.
use Rattle.std.specs.Prelude.{◌≡◌, ◌≢◌, ℕ, List, ◌∷◌, ◌++◌, All}
use Rattle.nio_race_text.specs.RaceText.{go_line}

-- none of these lines is `go`
abbrev pub AreGoless : List (List ℕ) → Type 0
AreGoless lines = All (λ line. line ≢ go_line) lines

-- lines are cut at their first `go`
pub record IsCutAtGo (lines front back : List (List ℕ)) : Type 0 where
  pub parts : lines ≡ front ++ go_line ∷ back
  pub first : AreGoless front
