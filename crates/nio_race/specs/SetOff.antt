-- What `go` leaves: a racer for each caller, with what the caller has in progress.
use Rattle.std.specs.Prelude.{◌≡◌, ◌≢◌, ℕ, ◌<◌, ◌≤◌, ◌==◌, ◌++◌, IsFalse, if◌then◌else◌, Option, Some, None, List, []}
use Rattle.std.specs.Prelude.{◌∷◌, length, All}
use Rattle.std.specs.List.{slice_index_or}
use Rattle.nio_base.specs.declared.numbers.CallerNo.{CallerNo}
use Rattle.nio_history.specs.declared.event.Event.{Event}
use Rattle.nio_serial.specs.Documented.{Progress}
use Rattle.nio_sole.specs.Stands.{HasPlaces, progress_of, slot}
use Rattle.nio_sole.specs.declared.desk.Begun.{Begun}
use Rattle.nio_sole.specs.declared.desk.Desk.{Desk}
use Rattle.nio_sole.specs.declared.desk.Shut.{Shut}
use Rattle.nio_words.specs.Passes.{IsPassOf, seen}
use Rattle.nio_words.specs.Sharing.{HandsOver}
use Rattle.nio_words.specs.declared.words.Words.{Words}
use Rattle.nio_race.specs.Ends.{HasNoEnds, ends_of}
use Rattle.nio_race.specs.Piping.{own_ends}
use Rattle.nio_race.specs.Race.{own_progress}
use Rattle.nio_race.specs.Racers.{IsSetOff, StandsFor}
use Rattle.nio_race.specs.declared.racer.Racer.{Racer}

-- ---- what stands at a place

abbrev pub own_begun : CallerNo → Option Begun → Option Begun
own_begun n None = None
own_begun n (Some x) = if x.caller.0 == n.0 then Some x else None

abbrev pub other_begun : CallerNo → Option Begun → Option Begun
other_begun n None = None
other_begun n (Some x) = if x.caller.0 == n.0 then None else Some x

abbrev pub own_shut : CallerNo → Option Shut → Option Shut
own_shut n None = None
own_shut n (Some x) = if x.caller.0 == n.0 then Some x else None

abbrev pub other_shut : CallerNo → Option Shut → Option Shut
other_shut n None = None
other_shut n (Some x) = if x.caller.0 == n.0 then None else Some x

-- At the places below `count` the caller's own was moved from the one list to the other, in which nothing stood.
pub record MovedBelow {A : Type 0} (own other : Option A → Option A) (count : ℕ)
    (from from' to' : List (Option A)) : Type 0 where
  pub moved : (s : ℕ) → s < count → slot to' s ≡ own (slot from s)
  pub left : (s : ℕ) → s < count → slot from' s ≡ other (slot from s)
  pub unmoved : (s : ℕ) → count ≤ s → slot to' s ≡ None
  pub unleft : (s : ℕ) → count ≤ s → slot from' s ≡ slot from s

-- ---- racers

-- The caller's number and what it has in progress went from the desk to the racer; the others' stays. It has no end of
-- a pipe yet, and the desk's pipes are as they were.
pub record TakesOver (w : Words) (d d' : Desk) (number : CallerNo) (r : Racer) : Type 0 where
  pub number_is : r.number ≡ number
  pub pass : HandsOver w number d.pass d'.pass r.desk.pass
  pub places : HasPlaces w d'
  pub own_places : HasPlaces w r.desk
  pub own : progress_of r.desk ≡ own_progress number (progress_of d)
  pub others : (n : CallerNo) → n ≢ number → own_progress n (progress_of d') ≡ own_progress n (progress_of d)
  pub unanswered : r.replies.items ≡ []
  pub in_memory : IsFalse r.lacks_memory
  pub endless : HasNoEnds r
  pub pipes : d'.pipes ≡ d.pipes

pub record AddsRacer (w : Words) (d d' : Desk) (number : CallerNo) (racers racers' : List Racer) : Type 0 where
  pub racer : Racer
  pub takes_over : TakesOver w d d' number racer
  pub added : racers' ≡ racers ++ racer ∷ []

-- the racer of caller k, at `go`, before it was given its ends of pipes
pub record IsSetOffWithout (w : Words) (go : List Event) (now : Progress) (k : ℕ) (r : Racer) : Type 0 where
  pub number : r.number ≡ record { 0 = k }
  pub stands : StandsFor w r.desk r.number
  pub unanswered : r.replies.items ≡ []
  pub in_memory : IsFalse r.lacks_memory
  pub endless : HasNoEnds r
  pub sight : seen r.desk.pass ≡ go
  pub progress : progress_of r.desk ≡ own_progress (record { 0 = k }) now

-- the racer of caller k, at `go`
pub record IsSetOffAt (w : Words) (go : List Event) (now : Progress) (k : ℕ) (r : Racer) : Type 0 where
  pub number : r.number ≡ record { 0 = k }
  pub set_off : IsSetOff w r
  pub sight : seen r.desk.pass ≡ go
  pub progress : progress_of r.desk ≡ own_progress (record { 0 = k }) now
  pub ends : ends_of r.ends ≡ own_ends (record { 0 = k }) now.pipes

-- so many racers, of which each is the one of the caller with its place as number
pub record AreInOrder (Is : ℕ → Racer → Type 0) (count : ℕ) (racers : List Racer) : Type 0 where
  pub count_is : length racers ≡ count
  pub each : (k : ℕ) (r : Racer) → k < count → slice_index_or racers k r ≡ r → Is k r

-- these are the racers of the first callers, in rising order
abbrev pub AreSetOff : Words → List Event → Progress → ℕ → List Racer → Type 0
AreSetOff w go now count racers = AreInOrder (IsSetOffAt w go now) count racers

abbrev pub AreSetOffWithout : Words → List Event → Progress → ℕ → List Racer → Type 0
AreSetOffWithout w go now count racers = AreInOrder (IsSetOffWithout w go now) count racers

-- their passes are ones of the table
abbrev pub AreRacers : Words → List Racer → Type 0
AreRacers w racers = All (λ r. IsPassOf w r.desk.pass) racers
