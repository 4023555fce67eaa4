-- What is added to the output for a caller.
use Rattle.std.specs.Prelude.{◌≡◌, ℕ, ◌+◌, ◌++◌, List, ◌∷◌, drop}
use Rattle.nio_base.specs.declared.numbers.CallerNo.{CallerNo}
use Rattle.nio_language.specs.declared.reply.Reply.{Reply}
use Rattle.nio_race_text.specs.declared.call.RaceLine.{RaceLine}
use Rattle.nio_race.specs.Race.{caller_text, calls_by}

-- the lines of the caller were added, with these replies
abbrev pub WritesCaller : CallerNo → List RaceLine → List Reply → List ℕ → List ℕ → Type 0
WritesCaller n race replies before after = after ≡ before ++ caller_text n 1 (calls_by n race) replies

-- So many lines of the caller were added before, and so many are now. What was added and what the later lines add is
-- what this line and the later ones add.
abbrev pub WritesLine : CallerNo → RaceLine → List Reply → ℕ → ℕ → List ℕ → List ℕ → Type 0
WritesLine n line replies made made' before after =
    (later : List RaceLine)
    → after ++ caller_text n (made' + 1) (calls_by n later) (drop made' replies)
    ≡ before ++ caller_text n (made + 1) (calls_by n (line ∷ later)) (drop made replies)
