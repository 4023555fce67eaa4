-- What drawing a caller's number does.
use Rattle.std.specs.Prelude.{◌≡◌, ◌≢◌, Bool, true, false, [], ◌∷◌, ◌++◌, if◌then◌else◌, Result, Ok, Err}
use Rattle.nio_base.specs.declared.numbers.CallerNo.{CallerNo}
use Rattle.nio_history.specs.Conditions.{IsCaller}
use Rattle.nio_history.specs.Histories.{event_of, StepClause}
use Rattle.nio_history.specs.declared.act.Act.TheVariants.{DrawBit}
use Rattle.nio_words.specs.Passes.{seen, Holds, HoldSame, IsOnly, IsPassOf, limits_of}
use Rattle.nio_words.specs.declared.drawing.DrawError.{DrawError}
use Rattle.nio_words.specs.declared.drawing.DrawError.TheVariants.{NoSuchCaller, CallerTaken}
use Rattle.nio_words.specs.declared.words.Pass.{Pass}
use Rattle.nio_words.specs.declared.words.Words.{Words}

-- A step that draws the number, and found whether it was drawn: where it wasn't, its event is added
-- and the pass holds the number besides; where it was, no event is added, the pass has then seen the
-- history so far, and it holds the same numbers.
pub record Draws (w : Words) (p q : Pass) (number : CallerNo) (found : Bool) : Type 0 where
  pub pass : IsPassOf w q
  pub clause : StepClause (limits_of w) (Holds p) number (DrawBit number found) (seen p) (seen q)
  pub keeps : (n : CallerNo) → Holds p n → Holds q n
  pub holds : found ≡ false → Holds q number
  pub others : (n : CallerNo) → Holds q n → n ≢ number → Holds p n
  pub same : found ≡ true → HoldSame p q
  pub only : IsOnly p
      → IsOnly q × (seen q ≡ seen p ++ (if found then [] else event_of number (DrawBit number false) ∷ []))

-- what a draw answers: the number isn't below the limit, and nothing changed; or its step found it
-- drawn; or it found it not drawn
abbrev pub Drawn : Words → Pass → Pass → CallerNo → Result (Unit {0}) DrawError → Type 0
Drawn w p q number (Ok _) = IsCaller (limits_of w) number × Draws w p q number false
Drawn w p q number (Err NoSuchCaller) = (IsCaller (limits_of w) number → ⊥) × (q ≡ p)
Drawn w p q number (Err CallerTaken) = IsCaller (limits_of w) number × Draws w p q number true
