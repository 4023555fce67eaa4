-- What contracts see of those who visit the places of a table.
use Rattle.std.specs.Prelude.{◌≡◌, ◌<◌, ℕ, zero, suc, List, [], ◌∷◌}
use Rattle.atomic_table.specs.Seated.{TableId}
use Rattle.nio_caller.specs.Callers.{Acting}
use Rattle.nio_words.specs.Passes.{limits_of}
use Rattle.nio_words.specs.declared.words.Words.{Words}
use Rattle.nio_c.specs.declared.visits.Visit.{Visit}
use Rattle.nio_c.specs.declared.visits.Visit.TheVariants as visit

pub record VisitorView : Type 0 where
  -- which places these are
  pub places : TableId
  -- the table that they are at
  pub table : Words
  -- the visits that were made, the last first
  pub visits : List Visit

-- a place that a visitor has in hand
pub record HandView : Type 0 where
  pub place : ℕ
  pub visitor : VisitorView

-- a visitor at this table who has made no visit
pub record IsNewVisitor (at : Words) (v : VisitorView) : Type 0 where
  pub table : v.table ≡ at
  pub visits : v.visits ≡ []

-- two visit the same places
pub record HasSamePlaces (v w : VisitorView) : Type 0 where
  pub places : w.places ≡ v.places
  pub table : w.table ≡ v.table

abbrev pub visits_too : Visit → VisitorView → VisitorView
visits_too x v = record v { visits = x ∷ v.visits }

abbrev pub in_hand : ℕ → VisitorView → HandView
in_hand place v = record { place = place; visitor = v }

-- a visitor to the same places who has made no visit
abbrev pub rested : VisitorView → VisitorView
rested v = record v { visits = [] }

-- it looked at each place below k, from 0 up, and no caller was left there
abbrev pub found_none : ℕ → List Visit → List Visit
found_none zero before = before
found_none (suc k) before = visit.FindsNone k ∷ found_none k before

-- none was free
abbrev pub found_taken : ℕ → List Visit → List Visit
found_taken zero before = before
found_taken (suc k) before = visit.FindsTaken k ∷ found_taken k before

-- it came to the first place that was free
pub record ComesToFree (old new : VisitorView) (hand : HandView) : Type 0 where
  pub inside : hand.place < (limits_of old.table).callers
  pub hand_of : hand.visitor ≡ record old { visits = visit.Comes hand.place ∷ found_taken hand.place old.visits }
  pub rests : new ≡ rested old

-- it took the caller from the first place where one was left
pub record TakesFirst (old new : VisitorView) (caller : Acting) (hand : HandView) : Type 0 where
  pub inside : hand.place < (limits_of old.table).callers
  pub table : caller.table ≡ old.table
  pub hand_of : hand.visitor ≡ record old { visits = visit.Takes hand.place caller ∷ found_none hand.place old.visits }
  pub rests : new ≡ rested old
