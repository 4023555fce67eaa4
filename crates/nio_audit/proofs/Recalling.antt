-- What a judge keeps is what the words of the conditions say of a caller's own events.
use Rattle.std.proofs.Common.{◌≡◌, ℕ, max, nat_lt, Bool, true, false, ◌&&◌, ◌||◌, ◌↔◌, IsTrue, if◌then◌else◌, refl, ap}
use Rattle.std.proofs.Common.{sym, ◌∙◌, arith}
use Rattle.std.specs.Prelude.{List, Option, Some, None, is_some, option_map}
use Rattle.std.proofs.lemmas.Bool.{ltb-true}
use Rattle.nio_audit.proofs.Counted.{all_made, all_claimed}
use Rattle.nio_audit.proofs.Hearing.{claim_of}
use Rattle.nio_audit.proofs.Latest.{has-since, last-since, since_from-twice, latest-either}
use Rattle.nio_audit.specs.Allowing.{Allowed, may_publish_by, may_clear_out_by}
use Rattle.nio_audit.specs.Counting.{IsCounted}
use Rattle.nio_audit.specs.Found.{unblocked_by, found_by, clear_key, is_clear_for}
use Rattle.nio_audit.specs.Remembering.{Knowledge}
use Rattle.nio_audit.specs.Latest.{latest}
use Rattle.nio_audit.specs.Remembers.{own_of, Remembers}
use Rattle.nio_audit.specs.declared.memory.Claim.{Claim}
use Rattle.nio_base.specs.declared.limits.Limits.{Limits}
use Rattle.nio_base.specs.declared.numbers.CallerNo.{CallerNo}
use Rattle.nio_base.specs.declared.numbers.ChanNo.{ChanNo}
use Rattle.nio_base.specs.declared.numbers.KeyId.{KeyId}
use Rattle.nio_base.specs.declared.numbers.SelNo.{SelNo}
use Rattle.nio_history.specs.Conditions.{Condition, may_publish, may_clear_out, may_remove_cancelled, holds}
use Rattle.nio_history.specs.Conditions.{has_entered}
use Rattle.nio_history.specs.Histories.{mine}
use Rattle.nio_history.specs.OwnEvents.{OwnClaim, has, last, under, since_taken, takes_hold, takes_free}
use Rattle.nio_history.specs.OwnEvents.{finds_unblocked}
use Rattle.nio_history.specs.OwnEvents.{finds_outside, enrolled_found, enrols_key, publishes, stage_found, is_clear}
use Rattle.nio_history.specs.OwnEvents.{is_clear_by, own_claim}
use Rattle.nio_history.specs.State.{State}
use Rattle.nio_history.specs.declared.act.Act.{Act}
use Rattle.nio_history.specs.declared.act.Act.TheVariants.{MakeChannel, Claim as ClaimAct, RaiseKeys, RaiseChannels}
use Rattle.nio_history.specs.declared.act.Act.TheVariants.{Publish, Enrol, Remove, SetMode, ClearMark, ClaimAgain}
use Rattle.nio_history.specs.declared.act.Act.TheVariants.{Reopen}
use Rattle.nio_history.specs.declared.event.Event.{Event}

module _ {k : Knowledge} {past : List Event} (h : Remembers k past) where
  unblocked-found : (n : CallerNo) (c : ℕ)
      → has (finds_unblocked c) (under c (mine n past)) ≡ unblocked_by (k.holds n.0 c)
  unblocked-found n c =
      has-since n (takes_hold c) (finds_unblocked c) past
      ∙ (ap (λ x. nat_lt x (latest n (finds_unblocked c) past)) (sym (h.holds n c).taken)
      ∙ ap (nat_lt (k.holds n.0 c).taken) (sym (h.holds n c).unblocked))

  stage-found : (n : CallerNo) (s i : ℕ)
      → last (stage_found s i) (since_taken s i (mine n past)) ≡ found_by (k.indexes n.0 s i)
  stage-found n s i =
      last-since n (takes_free s i) (stage_found s i) past
      ∙ (ap (λ x. if nat_lt x (latest n (λ act. is_some (stage_found s i act)) past)
      then last (stage_found s i) (mine n past) else None) (sym (h.indexes n s i).taken)
      ∙ (ap (λ x. if nat_lt (k.indexes n.0 s i).taken x then last (stage_found s i) (mine n past) else None)
      (sym (h.indexes n s i).looked)
      ∙ by_order (nat_lt (k.indexes n.0 s i).taken (k.indexes n.0 s i).looked) refl))
    where
      by_order : (b : Bool) → nat_lt (k.indexes n.0 s i).taken (k.indexes n.0 s i).looked ≡ b
          → (if b then last (stage_found s i) (mine n past) else None)
          ≡ (if b then Some (k.indexes n.0 s i).found else None)
      by_order true e =
          (h.indexes n s i).found (omega (arith, ltb-true (k.indexes n.0 s i).taken (k.indexes n.0 s i).looked e))
      by_order false e = refl

  key-clear : (n : CallerNo) (c s : ℕ) (key : Option KeyId)
      → is_clear_by c s (under c (mine n past)) (Some key) ≡ clear_key (k.holds n.0 c) (k.enrolments n.0 c s)
      (k.indexes n.0 s) key
  key-clear n c s None = refl
  key-clear n c s (Some q) =
      ap (has (finds_outside s q)) (since_from-twice (takes_hold c) either (mine n past))
      ∙ (has-since n (λ act. takes_hold c act || either act) (finds_outside s q) past
      ∙ (ap (λ x. nat_lt x (latest n (finds_outside s q) past)) opened
      ∙ ap (nat_lt since) (sym ((h.indexes n s q.index).outside q.serial))))
    where
      either : Act → Bool
      either = λ act. enrols_key c s act || publishes s q.index act

      since : ℕ
      since = max (k.holds n.0 c).taken (max (k.enrolments n.0 c s).enrolled (k.indexes n.0 s q.index).published)

      opened : latest n (λ act. takes_hold c act || either act) past ≡ since
      opened = omega (
        arith,
        latest-either n (takes_hold c) either past,
        latest-either n (enrols_key c s) (publishes s q.index) past,
        (h.holds n c).taken,
        (h.enrolments n c s).enrolled,
        (h.indexes n s q.index).published,
      )

  clear-found : (n : CallerNo) (c s : ℕ) → is_clear c s (mine n past) ≡ is_clear_for k n c s
  clear-found n c s =
      ap (is_clear_by c s (under c (mine n past))) (last-since n (takes_hold c) (enrolled_found c s) past)
      ∙ (ap (λ x. is_clear_by c s (under c (mine n past))
      (if nat_lt x (latest n (λ act. is_some (enrolled_found c s act)) past)
      then last (enrolled_found c s) (mine n past)
      else None))
      (sym (h.holds n c).taken)
      ∙ (ap (λ x. is_clear_by c s (under c (mine n past))
      (if nat_lt (k.holds n.0 c).taken x then last (enrolled_found c s) (mine n past) else None))
      (sym (h.enrolments n c s).found_at)
      ∙ by_order (nat_lt (k.holds n.0 c).taken (k.enrolments n.0 c s).found_at) refl))
    where
      by_order : (b : Bool) → nat_lt (k.holds n.0 c).taken (k.enrolments n.0 c s).found_at ≡ b
          → is_clear_by c s (under c (mine n past)) (if b then last (enrolled_found c s) (mine n past) else None)
          ≡ (b && clear_key (k.holds n.0 c) (k.enrolments n.0 c s) (k.indexes n.0 s) (k.enrolments n.0 c s).key)
      by_order true e =
          ap (is_clear_by c s (under c (mine n past)))
          ((h.enrolments n c s).key (omega (arith, ltb-true (k.holds n.0 c).taken (k.enrolments n.0 c s).found_at e)))
          ∙ key-clear n c s (k.enrolments n.0 c s).key
      by_order false e = refl

  publish-may : (st : State) (me : CallerNo) (s : SelNo) (i : ℕ)
      → may_publish st (mine me past) me (own_claim s.0 i (mine me past)) ≡ may_publish_by st k me
      (k.indexes me.0 s.0 i).claim
  publish-may st me s i =
      ap (may_publish st (mine me past) me) (h.indexes me s.0 i).claim ∙ by_claim (k.indexes me.0 s.0 i).claim
    where
      by_claim : (claim : Option Claim)
          → may_publish st (mine me past) me (option_map own_of claim) ≡ may_publish_by st k me claim
      by_claim None = refl
      by_claim (Some claim) = ap (λ b. holds st me claim.channel && b) (unblocked-found me claim.channel.0)

  clear_out-may : (st : State) (me : CallerNo) (s : SelNo) (i : ℕ)
      → may_clear_out st (mine me past) me s i ≡ may_clear_out_by st k me s i
  clear_out-may st me s i = ap (λ b. has_entered st me s && b) ((h.closings me s.0).below i)

claim_iff : (o : Option OwnClaim) (x : Option Claim) (channel : ChanNo) (serial : ℕ) → o ≡ option_map own_of x
    → (x ≡ Some (record { channel = channel; serial = serial }))
    ↔ (o ≡ Some (record { channel = channel; serial = serial }))
claim_iff o x channel serial e =
    (λ is. e ∙ ap (option_map own_of) is, λ is. back x ∙ ap (option_map claim_of) (sym e ∙ is))
  where
    back : (y : Option Claim) → y ≡ option_map claim_of (option_map own_of y)
    back None = refl
    back (Some y) = refl

same_test : {a b : Bool} → a ≡ b → IsTrue b ↔ IsTrue a
same_test e = (λ t. e ∙ t, λ t. sym e ∙ t)

-- a step is allowed by what the judge keeps exactly where its condition is true
pub allowed_iff : {k : Knowledge} {past : List Event} {st : State} {channels : ℕ} {keys : ℕ → ℕ} (l : Limits)
    (me : CallerNo) (act : Act)
    → Remembers k past → IsCounted st channels keys
    → Allowed l k channels keys st me act ↔ Condition l (mine me past) st me act
allowed_iff l me (MakeChannel c kind found) h counted =
    (λ may. (may.0, (all_made counted c.0).0 may.1), λ may. (may.0, (all_made counted c.0).1 may.1))
allowed_iff l me (ClaimAct s i c found) h counted = (
  λ may. (may.0, may.1, may.2, (all_claimed counted s i).0 may.3),
  λ may. (may.0, may.1, may.2, (all_claimed counted s i).1 may.3),
)
allowed_iff l me (RaiseKeys s n found) h counted =
    (λ may. (may.0, may.1, (all_claimed counted s n).0 may.2), λ may. (may.0, may.1, (all_claimed counted s n).1 may.2))
allowed_iff l me (RaiseChannels n found) h counted =
    (λ may. (may.0, (all_made counted n).0 may.1), λ may. (may.0, (all_made counted n).1 may.1))
allowed_iff {st = st} l me (Publish s i found) h counted =
    let same = same_test (publish-may h st me s i) in
    (λ may. (may.0, same.0 may.1, may.2), λ may. (may.0, same.1 may.1, may.2))
allowed_iff l me (Enrol c s i serial found) h counted =
    let same = same_test (clear-found h me c.0 s.0) in
    let claim = claim_iff _ _ c serial (h.indexes me s.0 i).claim in (
      λ may. (may.0, may.1, claim.0 may.2, may.3, same.0 may.4),
      λ may. (may.0, may.1, claim.1 may.2, may.3, same.1 may.4),
    )
allowed_iff {st = st} l me (Remove s i found) h counted =
    let same = same_test (ap (λ b. may_remove_cancelled st me s i || b) (clear_out-may h st me s i)) in
    (λ may. (may.0, same.0 may.1), λ may. (may.0, same.1 may.1))
allowed_iff l me (SetMode c blocking found) h counted = (
  λ may. (may.0, may.1, λ b s below. (same_test (clear-found h me c.0 s)).0 (may.2 b s below)),
  λ may. (may.0, may.1, λ b s below. (same_test (clear-found h me c.0 s)).1 (may.2 b s below)),
)
allowed_iff l me (Reopen c from found) h counted = (
  λ may. (may.0, may.1, may.2, may.3, may.4, λ s below. (same_test (clear-found h me c.0 s)).0 (may.5 s below)),
  λ may. (may.0, may.1, may.2, may.3, may.4, λ s below. (same_test (clear-found h me c.0 s)).1 (may.5 s below)),
)
allowed_iff l me (ClearMark s i found) h counted =
    let same = same_test (h.indexes me s.0 i).unpublished in
    (λ may. (may.0, same.0 may.1), λ may. (may.0, same.1 may.1))
allowed_iff l me (ClaimAgain s i c from found) h counted =
    let same = stage-found h me s.0 i in (
      λ may. (may.0, may.1, may.2, may.3, same ∙ may.4, may.5),
      λ may. (may.0, may.1, may.2, may.3, sym same ∙ may.4, may.5),
    )
allowed_iff l me _ h counted = (λ may. may, λ may. may)
