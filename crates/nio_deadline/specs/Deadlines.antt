-- The deadlines of operations, in the order in which they come.
use Rattle.std.specs.Prelude.{◌≡◌, ◌≢◌, ◌⊎◌, ⊤, ℕ, ◌<◌, if◌then◌else◌, not, ◌==◌, nat_le, List, [], ◌∷◌, Option}
use Rattle.std.specs.Prelude.{Some, None, filter}
use Rattle.nio_base.specs.declared.numbers.GChan.{GChan}
use Rattle.nio_base.specs.declared.group.OpKind.{OpKind}

-- its moment, and the number, the channel and the kind of the operation
pub record Deadline : Type 0 where
  pub at : ℕ
  pub op : ℕ
  pub chan : GChan
  pub kind : OpKind

-- one more deadline, behind those whose moment isn't later
abbrev pub with_deadline : Deadline → List Deadline → List Deadline
with_deadline d [] = d ∷ []
with_deadline d (e ∷ es) = if nat_le e.at d.at then e ∷ with_deadline d es else d ∷ e ∷ es

-- the deadlines without that of this operation
abbrev pub without : ℕ → List Deadline → List Deadline
without n ds = filter (λ d. not (d.op == n)) ds

-- the deadlines that have come at this moment
abbrev pub due : ℕ → List Deadline → List Deadline
due now ds = filter (λ d. nat_le d.at now) ds

-- the moment of the first deadline
abbrev pub first_moment : List Deadline → Option ℕ
first_moment [] = None
first_moment (d ∷ ds) = Some d.at

-- ---- in order

-- a deadline stands before others in rising order of moment and then number, and is of another operation than they
abbrev pub IsBefore : Deadline → List Deadline → Type 0
IsBefore d [] = ⊤
IsBefore d (e ∷ es) = ((d.at < e.at) ⊎ ((d.at ≡ e.at) × (d.op < e.op))) × (d.op ≢ e.op) × IsBefore d es

-- the deadlines stand in rising order of moment and then number, and no operation has two
abbrev pub AreInOrder : List Deadline → Type 0
AreInOrder [] = ⊤
AreInOrder (d ∷ ds) = IsBefore d ds × AreInOrder ds
