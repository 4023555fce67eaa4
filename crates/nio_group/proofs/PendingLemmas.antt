-- Pending operations, by their channels and kinds.
use Rattle.std.proofs.Common.{◌≡◌, ◌≢◌, ℕ, ◌+◌, true, false, eqb, ◌&&◌, Option, Some, None, refl, arith, ◌⊎◌, inl, inr}
use Rattle.std.proofs.lemmas.Bool.{false≢true, eqb-true, and_parts}
use Rattle.nio_base.specs.declared.group.OpKind.{OpKind}
use Rattle.nio_base.specs.declared.group.OpKind.TheVariants.{Accept, Connect, Read, Write}
use Rattle.nio_group.specs.declared.operation.Stage.{Stage}
use Rattle.nio_group.specs.declared.operation.Stage.TheVariants.{Pending, Queued, Running}
use Rattle.nio_group.specs.declared.operation.Operation.{Operation}
use Rattle.nio_group.specs.declared.pending.Pending as slots
use Rattle.nio_group.specs.Stages.{same_kind, stage_is_pending, is_pending, is_pending_on, is_pending_as}
use Rattle.nio_group.specs.Pending.{slot_of, with_slot, nothing_pending}
use Rattle.nio_group.proofs.ListLemmas.{eqb-same}

pub kinds : (a b : OpKind) → (a ≡ b) ⊎ (a ≢ b)
kinds Accept Accept = inl refl
kinds Accept Connect = inr (λ e. cc)
kinds Accept Read = inr (λ e. cc)
kinds Accept Write = inr (λ e. cc)
kinds Connect Accept = inr (λ e. cc)
kinds Connect Connect = inl refl
kinds Connect Read = inr (λ e. cc)
kinds Connect Write = inr (λ e. cc)
kinds Read Accept = inr (λ e. cc)
kinds Read Connect = inr (λ e. cc)
kinds Read Read = inl refl
kinds Read Write = inr (λ e. cc)
kinds Write Accept = inr (λ e. cc)
kinds Write Connect = inr (λ e. cc)
kinds Write Read = inr (λ e. cc)
kinds Write Write = inl refl

pub same_kind-refl : (a : OpKind) → same_kind a a ≡ true
same_kind-refl Accept = refl
same_kind-refl Connect = refl
same_kind-refl Read = refl
same_kind-refl Write = refl

pub same_kind-true : (a b : OpKind) → same_kind a b ≡ true → a ≡ b
same_kind-true Accept Accept h = refl
same_kind-true Connect Connect h = refl
same_kind-true Read Read h = refl
same_kind-true Write Write h = refl
same_kind-true Accept Connect h = absurd (false≢true h)
same_kind-true Accept Read h = absurd (false≢true h)
same_kind-true Accept Write h = absurd (false≢true h)
same_kind-true Connect Accept h = absurd (false≢true h)
same_kind-true Connect Read h = absurd (false≢true h)
same_kind-true Connect Write h = absurd (false≢true h)
same_kind-true Read Accept h = absurd (false≢true h)
same_kind-true Read Connect h = absurd (false≢true h)
same_kind-true Read Write h = absurd (false≢true h)
same_kind-true Write Accept h = absurd (false≢true h)
same_kind-true Write Connect h = absurd (false≢true h)
same_kind-true Write Read h = absurd (false≢true h)

pub stage-pending : (stage : Stage) → stage_is_pending stage ≡ true → stage ≡ Pending
stage-pending Pending h = refl
stage-pending (Queued finished) h = absurd (false≢true h)
stage-pending Running h = absurd (false≢true h)

-- what is known of an operation that is pending on a channel and of a kind
pub record IsPendingOf (c : ℕ) (kind : OpKind) (op : Operation) : Type 0 where
  pub stage : op.stage ≡ Pending
  pub chan : op.chan.number ≡ c
  pub same : op.kind ≡ kind

pub pending-parts : (c : ℕ) (kind : OpKind) (op : Operation) → is_pending_as c kind (Some op) ≡ true
    → IsPendingOf c kind op
pending-parts c kind op h =
    let on = (and_parts (stage_is_pending op.stage && eqb op.chan.number c) (same_kind op.kind kind) h).0 in
    record {
      stage = stage-pending op.stage (and_parts (stage_is_pending op.stage) (eqb op.chan.number c) on).0;
      chan = eqb-true op.chan.number c (and_parts (stage_is_pending op.stage) (eqb op.chan.number c) on).1;
      same = same_kind-true op.kind kind
          (and_parts (stage_is_pending op.stage && eqb op.chan.number c) (same_kind op.kind kind) h).1;
    }

pub not_pending-as : (c : ℕ) (kind : OpKind) (slot : Option Operation) → is_pending slot ≡ false
    → is_pending_as c kind slot ≡ false
not_pending-as c kind None h = refl
not_pending-as c kind (Some op) h = rw h refl

pub pending-as-pending : (c : ℕ) (kind : OpKind) (slot : Option Operation) → is_pending_as c kind slot ≡ true
    → is_pending slot ≡ true
pending-as-pending c kind None h = h
pending-as-pending c kind (Some op) h =
    (and_parts (stage_is_pending op.stage) (eqb op.chan.number c)
    (and_parts (stage_is_pending op.stage && eqb op.chan.number c) (same_kind op.kind kind) h).0).0

-- a pending operation is pending on its own channel and as of its own kind
pub pending-own : (op : Operation) → is_pending (Some op) ≡ true → is_pending_as op.chan.number op.kind (Some op) ≡ true
pending-own op is = rw (is, eqb-same op.chan.number, same_kind-refl op.kind) refl

-- an operation that is pending on a channel is pending there as one of its kind
pub pending_on-as : (c : ℕ) (op : Operation) → is_pending_on c (Some op) ≡ true
    → is_pending_as c op.kind (Some op) ≡ true
pending_on-as c op h = rw (h, same_kind-refl op.kind) refl

pub pending_as-on : (c : ℕ) (kind : OpKind) (slot : Option Operation) → is_pending_as c kind slot ≡ true
    → is_pending_on c slot ≡ true
pending_as-on c kind None h = h
pending_as-on c kind (Some op) h =
    (and_parts (stage_is_pending op.stage && eqb op.chan.number c) (same_kind op.kind kind) h).0

pub slot_of-with_same : (p : slots.Pending) (kind : OpKind) (n : Option ℕ) → slot_of (with_slot p kind n) kind ≡ n
slot_of-with_same p Accept n = refl
slot_of-with_same p Connect n = refl
slot_of-with_same p Read n = refl
slot_of-with_same p Write n = refl

pub slot_of-with_other : (p : slots.Pending) (kind other : OpKind) (n : Option ℕ) → other ≢ kind
    → slot_of (with_slot p kind n) other ≡ slot_of p other
slot_of-with_other p Accept Accept n h = absurd (h refl)
slot_of-with_other p Accept Connect n h = refl
slot_of-with_other p Accept Read n h = refl
slot_of-with_other p Accept Write n h = refl
slot_of-with_other p Connect Accept n h = refl
slot_of-with_other p Connect Connect n h = absurd (h refl)
slot_of-with_other p Connect Read n h = refl
slot_of-with_other p Connect Write n h = refl
slot_of-with_other p Read Accept n h = refl
slot_of-with_other p Read Connect n h = refl
slot_of-with_other p Read Read n h = absurd (h refl)
slot_of-with_other p Read Write n h = refl
slot_of-with_other p Write Accept n h = refl
slot_of-with_other p Write Connect n h = refl
slot_of-with_other p Write Read n h = refl
slot_of-with_other p Write Write n h = absurd (h refl)

-- how many of the slots are filled
abbrev pub filled : Option ℕ → ℕ
filled None = 0
filled (Some n) = 1

abbrev pub filled_slots : slots.Pending → ℕ
filled_slots p = filled p.accept + filled p.connect + filled p.read + filled p.write

pub filled_slots-less : (p : slots.Pending) (kind : OpKind) (n : ℕ) → slot_of p kind ≡ Some n
    → filled_slots (with_slot p kind None) + 1 ≡ filled_slots p
filled_slots-less p Accept n h = rw h (omega arith)
filled_slots-less p Connect n h = rw h (omega arith)
filled_slots-less p Read n h = rw h (omega arith)
filled_slots-less p Write n h = rw h (omega arith)

pub slot_of-nothing : (kind : OpKind) → slot_of nothing_pending kind ≡ None
slot_of-nothing Accept = refl
slot_of-nothing Connect = refl
slot_of-nothing Read = refl
slot_of-nothing Write = refl
