-- What callers remember, told by the words of conditions, and what one event more does to it.
use Rattle.std.proofs.Common.{◌≡◌, ℕ, ◌+◌, ◌<◌, ◌==◌, max, nat_lt, Bool, true, false, not, ◌||◌, ◌&&◌, if◌then◌else◌}
use Rattle.std.proofs.Common.{Option, Some, None, is_some, List, [], ◌∷◌, ◌++◌, length, refl, ap, sym, ◌∙◌, arith}
use Rattle.std.proofs.Common.{eqb-true}
use Rattle.std.specs.Prelude.{unwrap_or, option_map}
use Rattle.std.specs.Option.{option_or}
use Rattle.std.proofs.lemmas.Bool.{ltb-true, ltb-false, lt-ltb, le-ltb}
use Rattle.std.proofs.Math.Bool.{or-false}
use Rattle.nio_audit.proofs.Latest.{latest-own, latest-other}
use Rattle.nio_audit.specs.Latest.{latest}
use Rattle.nio_audit.specs.Remembering.{outside_at}
use Rattle.nio_audit.specs.Remembers.{own_of, RemembersHold, RemembersEnrolled, RemembersIndex, RemembersClosing}
use Rattle.nio_audit.specs.declared.memory.Claim.{Claim}
use Rattle.nio_audit.specs.declared.memory.ClosingMemory.{ClosingMemory}
use Rattle.nio_audit.specs.declared.memory.HoldMemory.{HoldMemory}
use Rattle.nio_audit.specs.declared.memory.IndexMemory.{IndexMemory}
use Rattle.nio_audit.specs.declared.memory.EnrolledMemory.{EnrolledMemory}
use Rattle.nio_base.specs.declared.numbers.CallerNo.{CallerNo}
use Rattle.nio_base.specs.declared.numbers.KeyId.{KeyId}
use Rattle.nio_history.proofs.OneMore.{mine-own, mine-other, has-more, last-more, since_first-none, since_first-more}
use Rattle.nio_history.specs.Histories.{is_by, mine}
use Rattle.nio_history.specs.OwnEvents.{OwnClaim, has, last, since_first, since_entered, takes_hold, finds_unblocked}
use Rattle.nio_history.specs.OwnEvents.{enrolled_found, enrols_key, publishes, stage_found, is_outside, takes_free}
use Rattle.nio_history.specs.OwnEvents.{own_claim, claim_changed, or_none, is_unpublished, leaves_unpublished, is_yes}
use Rattle.nio_history.specs.OwnEvents.{enters, finds_below}
use Rattle.nio_history.specs.Sets.{is_in_key_set}
use Rattle.nio_history.specs.declared.act.Act.{Act}
use Rattle.nio_history.specs.declared.act.Act.TheVariants.{LookKeys}
use Rattle.nio_history.specs.declared.event.Event.{Event}
use Rattle.nio_history.specs.declared.found.Stage.{Stage}

-- ---- channels

abbrev pub heard_hold : ℕ → Act → ℕ → HoldMemory → HoldMemory
heard_hold now act c m =
    record {
      taken = if takes_hold c act then now else m.taken;
      unblocked = if finds_unblocked c act then now
          else m.unblocked;
    }

pub hold-other : (m : HoldMemory) (n : CallerNo) (c : ℕ) (past : List Event) (e : Event) → is_by n e ≡ false
    → RemembersHold m n c past
    → RemembersHold m n c (past ++ e ∷ [])
hold-other m n c past e by h = record {
  taken = h.taken ∙ sym (latest-other n (takes_hold c) past e by);
  unblocked = h.unblocked ∙ sym (latest-other n (finds_unblocked c) past e by);
}

-- a moment that is kept
moment : (n : CallerNo) (p : Act → Bool) (past : List Event) (e : Event) (x : ℕ) → is_by n e ≡ true
    → x ≡ latest n p past
    → (if p e.act then length past + 1 else x) ≡ latest n p (past ++ e ∷ [])
moment n p past e x by h = ap (λ k. if p e.act then length past + 1 else k) h ∙ sym (latest-own n p past e by)

pub hold-own : (m : HoldMemory) (n : CallerNo) (c : ℕ) (past : List Event) (e : Event) → is_by n e ≡ true
    → RemembersHold m n c past
    → RemembersHold (heard_hold (length past + 1) e.act c m) n c (past ++ e ∷ [])
hold-own m n c past e by h = record {
  taken = moment n (takes_hold c) past e m.taken by h.taken;
  unblocked = moment n (finds_unblocked c) past e m.unblocked by h.unblocked;
}

-- ---- enrolled keys

-- the same with what an act tells: which key it found or enrolled, and whether it enrolled it
abbrev pub enrolled_parts : ℕ → Option (Option KeyId) → Bool → EnrolledMemory → EnrolledMemory
enrolled_parts now key enrols m = record {
  found_at = if is_some key then now else m.found_at;
  key = unwrap_or key m.key;
  enrolled = if enrols then now else m.enrolled;
}

abbrev pub heard_enrolled : ℕ → Act → ℕ → ℕ → EnrolledMemory → EnrolledMemory
heard_enrolled now act c s m = enrolled_parts now (enrolled_found c s act) (enrols_key c s act) m

pub enrolment-other : (m : EnrolledMemory) (n : CallerNo) (c s : ℕ) (past : List Event) (e : Event) → is_by n e ≡ false
    → RemembersEnrolled m n c s past
    → RemembersEnrolled m n c s (past ++ e ∷ [])
enrolment-other m n c s past e by h = record {
  found_at = h.found_at ∙ sym (latest-other n (λ act. is_some (enrolled_found c s act)) past e by);
  key = λ some. ap (last (enrolled_found c s)) (mine-other n past e by) ∙ h.key some;
  enrolled = h.enrolled ∙ sym (latest-other n (enrols_key c s) past e by);
}

-- a value that is kept: the last act that tells of it, or the last before
value : {A : Type 0} (t : Option A) (was : Option A) (x : A) (now found_at : ℕ) → (0 < found_at → was ≡ Some x)
    → 0 < (if is_some t then now else found_at)
    → option_or t was ≡ Some (unwrap_or t x)
value (Some y) was x now found_at h some = refl
value None was x now found_at h some = h some

pub enrolment-own : (m : EnrolledMemory) (n : CallerNo) (c s : ℕ) (past : List Event) (e : Event) → is_by n e ≡ true
    → RemembersEnrolled m n c s past
    → RemembersEnrolled (heard_enrolled (length past + 1) e.act c s m) n c s (past ++ e ∷ [])
enrolment-own m n c s past e by h = record {
  found_at = moment n (λ act. is_some (enrolled_found c s act)) past e m.found_at by h.found_at;
  key = λ some. (ap (last (enrolled_found c s)) (mine-own n past e by) ∙ last-more (enrolled_found c s)
      (mine n past) e.act)
      ∙ value (enrolled_found c s e.act) (last (enrolled_found c s) (mine n past)) m.key
      (length past + 1) m.found_at h.key some;
  enrolled = moment n (enrols_key c s) past e m.enrolled by h.enrolled;
}

-- ---- indexes

abbrev pub claim_of : OwnClaim → Claim
claim_of claim = record { channel = claim.channel; serial = claim.serial }

abbrev pub heard_before : Option Stage → IndexMemory → ℕ
heard_before None m = m.outside_before
heard_before (Some found) m = outside_at m found.serial

-- the same with what an act tells: the stage that it found, whether it published a key and took the index, what it did
-- to the claim, and whether it leaves the key unpublished
abbrev pub heard_parts : ℕ → Option Stage → Bool → Bool → Option (Option OwnClaim) → Option Bool → IndexMemory
    → IndexMemory
heard_parts now stage publishes takes claim unpublished m = record {
  looked = if is_some stage then now else m.looked;
  found = unwrap_or stage m.found;
  outside_before = heard_before stage m;
  published = if publishes then now else m.published;
  taken = if takes then now else m.taken;
  claim = unwrap_or (option_map (option_map claim_of) claim) m.claim;
  unpublished = unwrap_or unpublished m.unpublished;
}

abbrev pub heard_index : ℕ → Act → ℕ → ℕ → IndexMemory → IndexMemory
heard_index now act s i m =
    heard_parts now (stage_found s i act) (publishes s i act) (takes_free s i act) (claim_changed s i act)
    (leaves_unpublished s i act) m

pub index-other : (m : IndexMemory) (n : CallerNo) (s i : ℕ) (past : List Event) (e : Event) → is_by n e ≡ false
    → RemembersIndex m n s i past
    → RemembersIndex m n s i (past ++ e ∷ [])
index-other m n s i past e by h = record {
  looked = h.looked ∙ sym (latest-other n (λ act. is_some (stage_found s i act)) past e by);
  found = λ some. ap (last (stage_found s i)) (mine-other n past e by) ∙ h.found some;
  outside = λ serial. h.outside serial
      ∙ sym (latest-other n (λ act. is_outside serial (stage_found s i act)) past e by);
  published = h.published ∙ sym (latest-other n (publishes s i) past e by);
  taken = h.taken ∙ sym (latest-other n (takes_free s i) past e by);
  claim = ap (own_claim s i) (mine-other n past e by) ∙ h.claim;
  unpublished = ap (is_unpublished s i) (mine-other n past e by) ∙ h.unpublished;
}

same_serial : (k : Stage) (serial : ℕ) → is_in_key_set k serial ≡ true → k.serial ≡ serial
same_serial k serial h = by_test k.claimed (k.serial == serial) refl h
  where
    by_test : (a b : Bool) → (k.serial == serial) ≡ b → ((a && b) && (k.published && not k.removed)) ≡ true
        → k.serial ≡ serial
    by_test true true e p = eqb-true k.serial serial e
    by_test true false e p = cc
    by_test false b e p = cc

outside_heard : (m : IndexMemory) (t : Option Stage) (now serial was : ℕ) → outside_at m serial ≡ was
    → (if is_in_key_set (unwrap_or t m.found) serial then heard_before t m else (if is_some t then now else m.looked))
    ≡ (if is_outside serial t then now else was)
outside_heard m None now serial was here = here
outside_heard m (Some found) now serial was here = by_test (is_in_key_set found serial) refl
  where
    by_test : (b : Bool) → is_in_key_set found serial ≡ b
        → (if b then outside_at m found.serial else now) ≡ (if not b then now else was)
    by_test true e = ap (outside_at m) (same_serial found serial e) ∙ here
    by_test false e = refl

claim_heard : (t : Option (Option OwnClaim)) (was : Option (Option OwnClaim)) (x : Option Claim)
    → or_none was ≡ option_map own_of x
    → or_none (option_or t was) ≡ option_map own_of (unwrap_or (option_map (option_map claim_of) t) x)
claim_heard None was x h = h
claim_heard (Some None) was x h = refl
claim_heard (Some (Some claim)) was x h = refl

unpublished_heard : (t was : Option Bool) (x : Bool) → is_yes was ≡ x → is_yes (option_or t was) ≡ unwrap_or t x
unpublished_heard None was x h = h
unpublished_heard (Some b) was x h = refl

pub index-own : (m : IndexMemory) (n : CallerNo) (s i : ℕ) (past : List Event) (e : Event) → is_by n e ≡ true
    → RemembersIndex m n s i past
    → RemembersIndex (heard_index (length past + 1) e.act s i m) n s i (past ++ e ∷ [])
index-own m n s i past e by h = record {
  looked = moment n (λ act. is_some (stage_found s i act)) past e m.looked by h.looked;
  found = λ some. (ap (last (stage_found s i)) (mine-own n past e by) ∙ last-more (stage_found s i) (mine n past) e.act)
      ∙ value (stage_found s i e.act) (last (stage_found s i) (mine n past)) m.found
      (length past + 1) m.looked h.found some;
  outside =
      λ serial. outside_heard m (stage_found s i e.act) (length past + 1) serial
      (latest n (λ act. is_outside serial (stage_found s i act)) past) (h.outside serial)
      ∙ sym (latest-own n (λ act. is_outside serial (stage_found s i act)) past e by);
  published = moment n (publishes s i) past e m.published by h.published;
  taken = moment n (takes_free s i) past e m.taken by h.taken;
  claim = (ap (own_claim s i) (mine-own n past e by) ∙ ap or_none (last-more (claim_changed s i) (mine n past) e.act))
      ∙ claim_heard (claim_changed s i e.act) (last (claim_changed s i) (mine n past)) m.claim h.claim;
  unpublished =
      (ap (is_unpublished s i) (mine-own n past e by)
      ∙ ap is_yes (last-more (leaves_unpublished s i) (mine n past) e.act))
      ∙ unpublished_heard (leaves_unpublished s i e.act) (last (leaves_unpublished s i) (mine n past)) m.unpublished
      h.unpublished;
}

-- ---- selectors

abbrev pub keys_found : ℕ → Act → Option ℕ
keys_found s (LookKeys s' found) = if s'.0 == s then Some found else None
keys_found s _ = None

abbrev pub is_above : ℕ → Option ℕ → Bool
is_above i None = false
is_above i (Some found) = nat_lt i found

finds_below-is : (s i : ℕ) (act : Act) → finds_below s i act ≡ is_above i (keys_found s act)
finds_below-is s i (LookKeys s' found) = by_test (s'.0 == s)
  where
    by_test : (b : Bool) → (b && nat_lt i found) ≡ is_above i (if b then Some found else None)
    by_test true = refl
    by_test false = refl
finds_below-is s i _ = refl

abbrev pub raised : ℕ → Option ℕ → ℕ
raised x None = x
raised x (Some found) = max x found

abbrev pub heard_closing : Act → ℕ → ClosingMemory → ClosingMemory
heard_closing act s m =
    record {
      entered = m.entered || enters s act;
      below = if m.entered then raised m.below (keys_found s act)
          else m.below;
    }

pub closing-other : (m : ClosingMemory) (n : CallerNo) (s : ℕ) (past : List Event) (e : Event) → is_by n e ≡ false
    → RemembersClosing m n s past
    → RemembersClosing m n s (past ++ e ∷ [])
closing-other m n s past e by h = record {
  entered = ap (has (enters s)) (mine-other n past e by) ∙ h.entered;
  below = λ i. ap (λ own. has (finds_below s i) (since_entered s own)) (mine-other n past e by) ∙ h.below i;
}

raised_is : (i x : ℕ) (t : Option ℕ) → (nat_lt i x || is_above i t) ≡ nat_lt i (raised x t)
raised_is i x None = or-false (nat_lt i x)
raised_is i x (Some found) = by_tests (nat_lt i x) (nat_lt i found) refl refl
  where
    by_tests : (a b : Bool) → nat_lt i x ≡ a → nat_lt i found ≡ b → (a || b) ≡ nat_lt i (max x found)
    by_tests true b e f = sym (lt-ltb i (max x found) (omega (arith, ltb-true i x e)))
    by_tests false true e f = sym (lt-ltb i (max x found) (omega (arith, ltb-true i found f)))
    by_tests false false e f = sym (le-ltb i (max x found) (omega (arith, ltb-false i x e, ltb-false i found f)))

pub closing-own : (m : ClosingMemory) (n : CallerNo) (s : ℕ) (past : List Event) (e : Event) → is_by n e ≡ true
    → RemembersClosing m n s past
    → RemembersClosing (heard_closing e.act s m) n s (past ++ e ∷ [])
closing-own m n s past e by h = record {
  entered = (ap (has (enters s)) (mine-own n past e by) ∙ has-more (enters s) (mine n past) e.act)
      ∙ ap (λ b. b || enters s e.act) h.entered;
  below = λ i. (ap (λ own. has (finds_below s i) (since_entered s own)) (mine-own n past e by)
      ∙ ap (has (finds_below s i)) (since_first-more (enters s) (mine n past) e.act))
      ∙ by_entered i m.entered h.entered;
}
  where
    by_entered : (i : ℕ) (b : Bool) → has (enters s) (mine n past) ≡ b
        → has (finds_below s i) (if has (enters s) (mine n past) then since_first (enters s) (mine n past) ++ e.act ∷ []
        else [])
        ≡ nat_lt i (if b then raised m.below (keys_found s e.act) else m.below)
    by_entered i true is =
        ap (λ b. has (finds_below s i) (if b then since_first (enters s) (mine n past) ++ e.act ∷ [] else [])) is
        ∙ (has-more (finds_below s i) (since_first (enters s) (mine n past)) e.act
        ∙ (ap (λ b. b || finds_below s i e.act) (h.below i)
        ∙ (ap (λ b. nat_lt i m.below || b) (finds_below-is s i e.act) ∙ raised_is i m.below (keys_found s e.act))))
    by_entered i false is =
        ap (λ b. has (finds_below s i) (if b then since_first (enters s) (mine n past) ++ e.act ∷ [] else [])) is
        ∙ (ap (has (finds_below s i)) (sym (since_first-none (enters s) (mine n past) is)) ∙ h.below i)
