-- Leaving a caller at its table, and taking one back that was left.
use Rattle.std.specs.Prelude.{◌≡◌, ◌⊎◌, ⊤, ℕ, ◌<◌, true, MatchBool, List, ◌∷◌, Result, Ok, Err}
use Rattle.nio_caller.specs.Callers.{Acting}
use Rattle.nio_words.specs.Passes.{limits_of}
use Rattle.nio_c.specs.Exports.{Refuses}
use Rattle.nio_c.specs.Holding.{Holding}
use Rattle.nio_c.specs.Making.{IsLetGo}
use Rattle.nio_c.specs.Places.{VisitorView, found_none, found_taken, rested}
use Rattle.nio_c.specs.Statuses.{code}
use Rattle.nio_c.specs.declared.handle.Handle.{Handle}
use Rattle.nio_c.specs.declared.leaving.TakeBackError.{TakeBackError}
use Rattle.nio_c.specs.declared.leaving.TakeBackError.TheVariants.{Memory, NoneLeft}
use Rattle.nio_c.specs.declared.status.Status.TheVariants as status
use Rattle.nio_c.specs.declared.visits.Visit.{Visit}
use Rattle.nio_c.specs.declared.visits.Visit.TheVariants as visit

-- how many places there are: as many as the table may have callers
abbrev pub places_of : Holding → ℕ
places_of h = (limits_of h.caller.table).callers

-- the caller and the room stay, and these visits were made
abbrev pub after_visits : List Visit → Holding → Holding
after_visits visits h = record h { visitor = record h.visitor { visits = visits } }

-- ---- leaving a caller

-- its visitor came to the first place that was free, and left the caller there
pub record IsLeft (old : Holding) (visitor : VisitorView) : Type 0 where
  pub place : ℕ
  pub inside : place < places_of old
  pub visits : visitor ≡ record old.visitor {
    visits = visit.Leaves place old.caller ∷ visit.Comes place ∷ found_taken place old.visitor.visits;
  }

-- no place was free
abbrev pub found_no_place : Holding → Holding
found_no_place h = after_visits (found_taken (places_of h) h.visitor.visits) h

-- the handle has what it had, and no place was free
pub record FindsNoPlace (old new : Handle) (answer : ℕ) : Type 0 where
  pub full : new.full ≡ true
  pub its : new.holder ≡ found_no_place old.holder
  pub says : answer ≡ code status.Busy

-- The caller is left at its table, and the handle is empty; or no place was free. As an empty handle has nothing, it
-- doesn't show the visit.
abbrev pub GivesBack : Handle → Handle → ℕ → Type 0
GivesBack old new says =
    MatchBool old.full (IsLetGo new says ⊎ FindsNoPlace old new says) (Refuses status.EmptyHandle ⊤ old new says)

-- ---- taking one back

-- a caller of the same table was taken from the first place where one was left; what has it shares the places
pub record Takes (old new other : Holding) : Type 0 where
  pub place : ℕ
  pub inside : place < places_of old
  pub table : other.caller.table ≡ old.caller.table
  pub places : other.visitor ≡ rested old.visitor
  pub visits : new
      ≡ after_visits (visit.Frees place ∷ visit.Takes place other.caller ∷ found_none place old.visitor.visits) old

-- a caller was taken, and left at the same place again
pub record PutsBack (old new : Holding) : Type 0 where
  pub place : ℕ
  pub other : Acting
  pub visits : new
      ≡ after_visits (visit.Leaves place other ∷ visit.Takes place other ∷ found_none place old.visitor.visits) old

-- A caller that was left comes back; or at each place none was left; or there is no memory for it.
abbrev pub TakesBack : Holding → Holding → Result Holding TakeBackError → Type 0
TakesBack old new (Ok other) = Takes old new other
TakesBack old new (Err NoneLeft) = new ≡ after_visits (found_none (places_of old) old.visitor.visits) old
TakesBack old new (Err Memory) = (new ≡ old) ⊎ PutsBack old new
