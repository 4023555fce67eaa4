-- What callers remember is what their own events say, by the words of the conditions.
use Rattle.std.specs.Prelude.{◌≡◌, ℕ, ◌<◌, nat_lt, Some, is_some, option_map, List}
use Rattle.nio_audit.specs.Latest.{latest}
use Rattle.nio_audit.specs.Remembering.{Knowledge, outside_at}
use Rattle.nio_audit.specs.declared.memory.Claim.{Claim}
use Rattle.nio_audit.specs.declared.memory.ClosingMemory.{ClosingMemory}
use Rattle.nio_audit.specs.declared.memory.HoldMemory.{HoldMemory}
use Rattle.nio_audit.specs.declared.memory.IndexMemory.{IndexMemory}
use Rattle.nio_audit.specs.declared.memory.EnrolledMemory.{EnrolledMemory}
use Rattle.nio_base.specs.declared.numbers.CallerNo.{CallerNo}
use Rattle.nio_history.specs.Histories.{mine}
use Rattle.nio_history.specs.OwnEvents.{OwnClaim, has, last, since_entered, takes_hold, finds_unblocked, enrolled_found}
use Rattle.nio_history.specs.OwnEvents.{enrols_key, publishes, stage_found, is_outside, takes_free, own_claim}
use Rattle.nio_history.specs.OwnEvents.{is_unpublished, enters, finds_below}
use Rattle.nio_history.specs.declared.event.Event.{Event}

pub record RemembersHold (m : HoldMemory) (n : CallerNo) (c : ℕ) (past : List Event) : Type 0 where
  pub taken : m.taken ≡ latest n (takes_hold c) past
  pub unblocked : m.unblocked ≡ latest n (finds_unblocked c) past

pub record RemembersEnrolled (m : EnrolledMemory) (n : CallerNo) (c s : ℕ) (past : List Event) : Type 0 where
  pub found_at : m.found_at ≡ latest n (λ act. is_some (enrolled_found c s act)) past
  pub key : 0 < m.found_at → last (enrolled_found c s) (mine n past) ≡ Some m.key
  pub enrolled : m.enrolled ≡ latest n (enrols_key c s) past

abbrev pub own_of : Claim → OwnClaim
own_of claim = record { channel = claim.channel; serial = claim.serial }

pub record RemembersIndex (m : IndexMemory) (n : CallerNo) (s i : ℕ) (past : List Event) : Type 0 where
  pub looked : m.looked ≡ latest n (λ act. is_some (stage_found s i act)) past
  pub found : 0 < m.looked → last (stage_found s i) (mine n past) ≡ Some m.found
  pub outside : (serial : ℕ) → outside_at m serial ≡ latest n (λ act. is_outside serial (stage_found s i act)) past
  pub published : m.published ≡ latest n (publishes s i) past
  pub taken : m.taken ≡ latest n (takes_free s i) past
  pub claim : own_claim s i (mine n past) ≡ option_map own_of m.claim
  pub unpublished : is_unpublished s i (mine n past) ≡ m.unpublished

pub record RemembersClosing (m : ClosingMemory) (n : CallerNo) (s : ℕ) (past : List Event) : Type 0 where
  pub entered : has (enters s) (mine n past) ≡ m.entered
  pub below : (i : ℕ) → has (finds_below s i) (since_entered s (mine n past)) ≡ nat_lt i m.below

-- all that callers know
pub record Remembers (k : Knowledge) (past : List Event) : Type 0 where
  pub holds : (n : CallerNo) (c : ℕ) → RemembersHold (k.holds n.0 c) n c past
  pub enrolments : (n : CallerNo) (c s : ℕ) → RemembersEnrolled (k.enrolments n.0 c s) n c s past
  pub indexes : (n : CallerNo) (s i : ℕ) → RemembersIndex (k.indexes n.0 s i) n s i past
  pub closings : (n : CallerNo) (s : ℕ) → RemembersClosing (k.closings n.0 s) n s past
