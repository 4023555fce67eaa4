-- What visitors do at the places of a table, in one order; the rule of the places, and what each step tells.
use Rattle.std.specs.Prelude.{◌≡◌, ◌≢◌, ⊤, ℕ, ◌<◌, ◌≤◌, ◌==◌, if◌then◌else◌, MatchBool, Option, None, Some, List, [], ◌∷◌}
use Rattle.std.specs.Prelude.{length, slice_index}
use mathlib.Core.Option.{some, Option as Found}
use lib.ListN.{get_elem?}
use Rattle.atomic_table.specs.Table.{Me, State}
use Rattle.nio_words.specs.declared.words.Words.{Words}
use Rattle.nio_caller.specs.Callers.{Acting}
use Rattle.nio_c.specs.declared.visits.Visit.{Visit}
use Rattle.nio_c.specs.declared.visits.Visit.TheVariants as visit
use Rattle.nio_c.specs.declared.visits.Visits.{Visits}

-- how a place stands: it is free, a visitor has it in hand, or a caller is left there
pub data Stand : Type 0 where
  free : Stand
  in_hand : ℕ → Stand
  left : Acting → Stand

-- a visit, and the number of the visitor who made it
pub record VisitBy : Type 0 where
  pub who : ℕ
  pub visit : Visit

abbrev pub place_of : Visit → ℕ
place_of (visit.Comes k) = k
place_of (visit.FindsTaken k) = k
place_of (visit.Leaves k caller) = k
place_of (visit.Takes k caller) = k
place_of (visit.FindsNone k) = k
place_of (visit.Frees k) = k

-- a visitor may make this visit at a place that stands so
abbrev pub MayMake : ℕ → Visit → Stand → Type 0
MayMake who (visit.Comes k) stand = stand ≡ free
MayMake who (visit.FindsTaken k) stand = stand ≢ free
MayMake who (visit.Leaves k caller) stand = stand ≡ in_hand who
MayMake who (visit.Takes k caller) stand = stand ≡ left caller
MayMake who (visit.FindsNone k) stand = (caller : Acting) → stand ≢ left caller
MayMake who (visit.Frees k) stand = stand ≡ in_hand who

-- how the place stands then
abbrev pub stand_after : ℕ → Visit → Stand → Stand
stand_after who (visit.Comes k) stand = in_hand who
stand_after who (visit.FindsTaken k) stand = stand
stand_after who (visit.Leaves k caller) stand = left caller
stand_after who (visit.Takes k caller) stand = in_hand who
stand_after who (visit.FindsNone k) stand = stand
stand_after who (visit.Frees k) stand = free

-- how a place stands after these visits, the last first
abbrev pub stand_of : ℕ → List VisitBy → Stand
stand_of k [] = free
stand_of k (last ∷ earlier) =
    if place_of last.visit == k then stand_after last.who last.visit (stand_of k earlier) else stand_of k earlier

-- each visit was one that its visitor might make as the place stood
abbrev pub IsLegal : List VisitBy → Type 0
IsLegal [] = ⊤
IsLegal (last ∷ earlier) = MayMake last.who last.visit (stand_of (place_of last.visit) earlier) × IsLegal earlier

-- those that this visitor made
abbrev pub made_by : ℕ → List VisitBy → List Visit
made_by who [] = []
made_by who (last ∷ earlier) = if last.who == who then last.visit ∷ made_by who earlier else made_by who earlier

-- by what it did last, a visitor has this place in hand
abbrev pub HasInHand : ℕ → List Visit → Type 0
HasInHand k [] = ⊥
HasInHand k (visit.Comes at ∷ earlier) = at ≡ k
HasInHand k (visit.FindsTaken at ∷ earlier) = ⊥
HasInHand k (visit.Leaves at caller ∷ earlier) = ⊥
HasInHand k (visit.Takes at caller ∷ earlier) = at ≡ k
HasInHand k (visit.FindsNone at ∷ earlier) = ⊥
HasInHand k (visit.Frees at ∷ earlier) = ⊥

-- ---- the rule

-- the word and the slot of a place that stands so
abbrev pub IsKeptAs : Words → ℕ → Found (Found (Option Acting)) → Stand → Type 0
IsKeptAs table word slot free = (word ≡ 0) × (slot ≡ some (some None))
IsKeptAs table word slot (in_hand who) = word ≡ 2
IsKeptAs table word slot (left caller) = (word ≡ 1) × (slot ≡ some (some (Some caller))) × (caller.table ≡ table)

-- There is one legal order of all visits, as which the places stand. Each visitor knows the visits that it made.
pub record AreKept (table : Words) (s : State (Option Acting) Visits) : Type 0 where
  pub all : List VisitBy
  pub legal : IsLegal all
  pub wide : length s.words ≡ length s.homes
  pub stands : (k : ℕ) → k < length s.homes
      → IsKeptAs table (slice_index s.words k) (get_elem? s.homes k) (stand_of k all)
  pub known : (who : ℕ) (v : Visits) → get_elem? s.views who ≡ some v
      → (v.table ≡ table) × (made_by who all ≡ v.made)
  pub others : (who : ℕ) → length s.views ≤ who → made_by who all ≡ []

abbrev pub first_visits : Words → Visits
first_visits table = record { table = table; made = [] }

-- one visit more
abbrev pub with_visit : Visit → Visits → Visits
with_visit x v = record v { made = x ∷ v.made }

-- ---- what a step tells

abbrev pub Comes : ℕ → Me (Option Acting) Visits → ℕ → Me (Option Acting) Visits → Type 0
Comes k before found after = MatchBool (found == 0)
    (after ≡ (with_visit (visit.Comes k) before.0, (k, None) ∷ before.1))
    (after ≡ (with_visit (visit.FindsTaken k) before.0, before.1))

abbrev pub Takes : ℕ → Me (Option Acting) Visits → ℕ → Me (Option Acting) Visits → Type 0
Takes k before found after = MatchBool (found == 1)
    ((caller : Acting) × (caller.table ≡ before.0.table)
    × (after ≡ (with_visit (visit.Takes k caller) before.0, (k, Some caller) ∷ before.1)))
    (after ≡ (with_visit (visit.FindsNone k) before.0, before.1))

abbrev pub Leaves : ℕ → Me (Option Acting) Visits → Me (Option Acting) Visits → Type 0
Leaves k before after = (caller : Acting) → before.1 ≡ (k, Some caller) ∷ []
    → after ≡ (with_visit (visit.Leaves k caller) before.0, [])

abbrev pub Frees : ℕ → Me (Option Acting) Visits → Me (Option Acting) Visits → Type 0
Frees k before after = after ≡ (with_visit (visit.Frees k) before.0, [])
