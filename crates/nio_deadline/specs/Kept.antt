-- How deadlines, and a group with time limits, are kept.
use Rattle.std.specs.Prelude.{◌≡◌, ⊤, ℕ, ◌+◌, ◌<◌, ◌≤◌, Bool, List, [], ◌∷◌, drop, length, map, Option, Some}
use Rattle.std.specs.Prelude.{None}
use Rattle.std.specs.BTreeMap.{BTreeMap, get}
use Rattle.std.specs.Ordering.{nat_cmp}
use Rattle.nio_group.specs.Completion.{JobFields}
use Rattle.nio_group.specs.Group.{Group}
use Rattle.nio_deadline.specs.Deadlines.{Deadline, AreInOrder, without}
use Rattle.nio_deadline.specs.Steps.{is_among, with_timeout}
use Rattle.nio_deadline.specs.Timed.{Timed, IsLawful}
use Rattle.nio_deadline.specs.declared.deadlines.Moment.{Moment}
use Rattle.nio_deadline.specs.declared.deadlines.Place.{Place}
use Rattle.nio_deadline.specs.declared.kinds.Kinds.{Kinds}

abbrev pub deadline_of : Moment × Place → Deadline
deadline_of (m, p) = record { at = m.at; op = m.op; chan = p.chan; kind = p.kind }

abbrev pub deadlines_of : List (Moment × Place) → List Deadline
deadlines_of entries = map deadline_of entries

-- the second map has the moment of each deadline, by its operation's number
abbrev pub HaveMoments : BTreeMap ℕ ℕ → List Deadline → Type 0
HaveMoments moments [] = ⊤
HaveMoments moments (d ∷ ds) = (get nat_cmp moments d.op ≡ Some d.at) × HaveMoments moments ds

pub record IsDeadlinesKept (ds : List Deadline) (moments : BTreeMap ℕ ℕ) : Type 0 where
  pub in_order : AreInOrder ds
  pub have_moments : HaveMoments moments ds

-- the number is above those of the operations that have deadlines
abbrev pub IsAboveAll : ℕ → List Deadline → Type 0
IsAboveAll n [] = ⊤
IsAboveAll n (d ∷ ds) = (d.op < n) × IsAboveAll n ds

-- the deadlines without that of the operation that a job names
abbrev pub without_job : Option JobFields → List Deadline → List Deadline
without_job None ds = ds
without_job (Some job) ds = without job.op.0 ds

-- the operation with the first deadline, which has come, times out
pub record TimesOutFirst (now : ℕ) (old new : Timed) : Type 0 where
  pub first : Deadline
  pub later : List Deadline
  pub is : old.deadlines ≡ first ∷ later
  pub has_come : first.at ≤ now
  pub leaves : new ≡ with_timeout old first
  pub keeps : new.deadlines ≡ later

-- the number is listed behind the first
abbrev pub is_among_later : ℕ → List ℕ → Bool
is_among_later n ns = is_among n (drop 1 ns)

abbrev pub timed_of : Group → List Deadline → List ℕ → List Kinds → Timed
timed_of g deadlines timed_out kinds =
    record { group = g; deadlines = deadlines; timed_out = timed_out; kinds = kinds }

pub record IsTimedKept (t : Timed) (len room : ℕ) : Type 0 where
  pub lawful : IsLawful t
  pub counted : len ≡ length t.timed_out
  -- room for the number of each operation that may still time out
  pub has_room : length t.timed_out + length t.deadlines ≤ room
  pub few_in_flight : t.group.flight.limit ≤ 65536
