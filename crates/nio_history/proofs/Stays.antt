-- A condition stays true while others go on: one line for each kind whose condition says more than
-- the ranges of numbers.
use Rattle.std.proofs.Common.{not, ◌≡◌, ℕ, ◌==◌, ◌<◌, Bool, true, false, ◌&&◌, ◌||◌, inl, inr, Option, Some, None, List}
use Rattle.std.proofs.Common.{[], ◌++◌, refl, ap, sym, ◌∙◌, subst, eqb-true, eq-eqb, arith}
use Rattle.std.specs.Prelude.{nat_lt}
use Rattle.std.proofs.lemmas.Bool.{and_parts, and_from, ltb-true, false_from_ne_true, or_cases, or_right}
use Rattle.std.proofs.Math.Bool.{and-true}
use Rattle.nio_base.specs.Kind.{kind_code, is_same_kind}
use Rattle.nio_base.specs.declared.limits.Limits.{Limits}
use Rattle.nio_base.specs.declared.numbers.CallerNo.{CallerNo}
use Rattle.nio_base.specs.declared.numbers.ChanNo.{ChanNo}
use Rattle.nio_base.specs.declared.numbers.SelNo.{SelNo}
use Rattle.nio_history.proofs.ChannelChanges.{same_kind}
use Rattle.nio_history.proofs.KeyChanges.{KeepsStages, stages_keep, back_parts, published_already, cancelled_already}
use Rattle.nio_history.proofs.LastsAlone.{one_holder, lasts_alone, had_stands, own_stands, none_further, has-mine}
use Rattle.nio_history.proofs.LastsOnceSound.{permanent_stands}
use Rattle.nio_history.proofs.Legal.{legal_beginning, without_from}
use Rattle.nio_history.proofs.OneMore.{state_after-more}
use Rattle.nio_history.proofs.Put.{put_keeps, put_at_keeps, put_pin_keeps}
use Rattle.nio_history.proofs.Soundness.{legal-sound, held_some, both_ways, beyond-claimed, cancelled_parts, may_remove}
use Rattle.nio_history.proofs.Soundness.{taken_not_dropped}
use Rattle.nio_history.specs.Acts.{effect, frees_index}
use Rattle.nio_history.specs.Conditions.{Condition, is_held_by, holds, has_turn, has_begun, has_entered, is_closer}
use Rattle.nio_history.specs.Conditions.{has_pin, has_taken, may_remove_cancelled, may_put_due, may_publish}
use Rattle.nio_history.specs.Conditions.{may_clear_out, WasOpen}
use Rattle.nio_history.specs.Histories.{state_after, is_by, mine, IsStep, IsLegal}
use Rattle.nio_history.specs.Permanent.{PermanentFact, selector_made, selector_closed_by, selector_entered}
use Rattle.nio_history.specs.Permanent.{channel_made, channel_of_kind, channel_opened}
use Rattle.nio_history.specs.Permanent.{index_claimed, key_cancelled, key_removed, stands, OwnFact, the_turn}
use Rattle.nio_history.specs.Permanent.{a_selection}
use Rattle.nio_history.specs.Permanent.{the_hold, a_pin, a_taken_index, a_change, list_had_by, is_had_by}
use Rattle.nio_history.specs.OwnEvents.{OwnClaim, has, under, since_entered, finds_below, finds_unblocked, own_claim}
use Rattle.nio_history.specs.OwnEvents.{gives_turn}
use Rattle.nio_history.specs.Sets.{in_cancelled_set, fits, was_published, was_cancelled, was_removed, is_valid}
use Rattle.nio_history.specs.Sets.{is_valid_key}
use Rattle.nio_history.specs.Sound.{IsSound}
use Rattle.nio_history.specs.State.{State, put, put_at}
use Rattle.nio_history.specs.Staying.{BeginningsAreLegal, FactsArePermanent, InvalidKeysStayInvalid}
use Rattle.nio_history.specs.Staying.{OnlyItselfGivesBack}
use Rattle.nio_history.specs.Staying.{ConditionsStay}
use Rattle.nio_history.specs.declared.act.Act.{Act}
use Rattle.nio_history.specs.declared.act.Act.TheVariants.{Wake, CancelKey, LookInterest, SwapInterest, OrInterest}
use Rattle.nio_history.specs.declared.act.Act.TheVariants.{AndInterest, SwapNote, LookNote, MakeChannel, Claim}
use Rattle.nio_history.specs.declared.act.Act.TheVariants.{RaiseKeys}
use Rattle.nio_history.specs.declared.act.Act.TheVariants.{Publish, Enrol, BeginLook, GiveTurn, Remove, LookMark, Mark}
use Rattle.nio_history.specs.declared.act.Act.TheVariants.{UnselectBit, EndWake, RaiseChannels, TryHoldBit, Release}
use Rattle.nio_history.specs.declared.act.Act.TheVariants.{SetMode, CloseBit, Enter, Pin, Unpin, ClaimAgain, PutFree}
use Rattle.nio_history.specs.declared.act.Act.TheVariants.{Reopen, Touch, TakeTouched}
use Rattle.nio_history.specs.declared.event.Event.{Event}
use Rattle.nio_history.specs.declared.found.Chan.{Chan}
use Rattle.nio_history.specs.declared.found.Stage.{Stage}

-- what caller n may build on of one state stands in the other
record StandsFor (n : CallerNo) (st st' : State) : Type 0 where
  permanent : (f : PermanentFact) → stands f st ≡ true → stands f st' ≡ true
  had : (f : OwnFact) → is_had_by n f st ≡ true → is_had_by n f st' ≡ true
  sweep : (s : SelNo) (i : ℕ) → may_remove_cancelled st n s i ≡ true → may_remove_cancelled st' n s i ≡ true
  put_dropped : (s : SelNo) (i : ℕ) → may_put_due st n s i ≡ true → may_put_due st' n s i ≡ true
  unpinned : (s : SelNo) (i : ℕ) → not (has_pin st n s i) ≡ true → not (has_pin st' n s i) ≡ true

or_stays : (a b a' b' : Bool) → (a ≡ true → a' ≡ true) → (b ≡ true → b' ≡ true) → (a || b) ≡ true → (a' || b') ≡ true
or_stays a b a' b' first second h =
    elim (or_cases a b h) [ inl x ↦ ap (λ c. c || b') (first x) | inr y ↦ or_right a' b' (second y) ]

publish_stays : (n : CallerNo) (own : List Act) (st st' : State) → StandsFor n st st' → (claim : Option OwnClaim)
    → may_publish st own n claim ≡ true → may_publish st' own n claim ≡ true
publish_stays n own st st' stays None may = may
publish_stays n own st st' stays (Some claim) may =
    let found : Bool = has (finds_unblocked claim.channel.0) (under claim.channel.0 own) in
    let both = and_parts (holds st n claim.channel) found may in
    and_from (holds st' n claim.channel) found (stays.had (the_hold claim.channel) both.0) both.1

clear_out_stays : (n : CallerNo) (own : List Act) (st st' : State) → StandsFor n st st' → (s : SelNo) (i : ℕ)
    → may_clear_out st own n s i ≡ true → may_clear_out st' own n s i ≡ true
clear_out_stays n own st st' stays s i may =
    let found_below : Bool = has (finds_below s.0 i) (since_entered s.0 own) in
    let both = and_parts (has_entered st n s) found_below may in
    let first_two = and_parts (is_closer st n s) (st.entered s.0) both.0 in
    and_from (has_entered st' n s) found_below
    (and_from (is_closer st' n s) (st'.entered s.0) (stays.permanent (selector_closed_by s n) first_two.0)
    (stays.permanent (selector_entered s.0) first_two.1))
    both.1

pin_or_begun_stays : (n : CallerNo) (st st' : State) → StandsFor n st st' → (s : SelNo) (i : ℕ)
    → (has_pin st n s i || has_begun st n s) ≡ true → (has_pin st' n s i || has_begun st' n s) ≡ true
pin_or_begun_stays n st st' stays s i =
    or_stays (has_pin st n s i) (has_begun st n s) (has_pin st' n s i) (has_begun st' n s) (stays.had (a_pin s i))
    (stays.had (a_selection s))

was_open_stays : (n : CallerNo) (st st' : State) → StandsFor n st st' → (c : ChanNo) (from : Chan) → WasOpen st c from
    → WasOpen st' c from
was_open_stays n st st' stays c from may = record {
  made = may.made;
  open_then = may.open_then;
  kind = sym (same_kind (st'.chan c.0).kind from.kind
      (and_parts (st'.chan c.0).made (is_same_kind (st'.chan c.0).kind from.kind)
      (stays.permanent (channel_of_kind c.0 from.kind)
      (and_from (st.chan c.0).made (is_same_kind (st.chan c.0).kind from.kind)
      (and_parts (st.chan c.0).made (not (nat_lt (st.chan c.0).serial from.serial)) may.was).0
      (eq-eqb (kind_code (st.chan c.0).kind) (kind_code from.kind) (sym (ap kind_code may.kind)))))).1);
  was = stays.permanent (channel_opened c.0 from.serial) may.was;
}

condition_stays : (l : Limits) (n : CallerNo) (own : List Act) (st st' : State) → StandsFor n st st' → (act : Act)
    → Condition l own st n act → Condition l own st' n act
condition_stays l n own st st' stays (Wake s found) may = (may.0, stays.permanent (selector_made s.0) may.1)
condition_stays l n own st st' stays (CancelKey s i found) may =
    (may.0, stays.permanent (index_claimed s.0 i) may.1, stays.had (a_pin s i) may.2, stays.had (a_change s i) may.3)
condition_stays l n own st st' stays (LookInterest s i found) may = (may.0, pin_or_begun_stays n st st' stays s i may.1)
condition_stays l n own st st' stays (SwapInterest s i ops found) may =
    (may.0, stays.had (a_pin s i) may.1, stays.had (a_change s i) may.2)
condition_stays l n own st st' stays (OrInterest s i ops found) may =
    (may.0, stays.had (a_pin s i) may.1, stays.had (a_change s i) may.2)
condition_stays l n own st st' stays (AndInterest s i ops found) may =
    (may.0, stays.had (a_pin s i) may.1, stays.had (a_change s i) may.2)
condition_stays l n own st st' stays (SwapNote s i att found) may = (may.0, stays.had (a_pin s i) may.1)
condition_stays l n own st st' stays (LookNote s i found) may = (may.0, stays.had (a_pin s i) may.1)
condition_stays l n own st st' stays (MakeChannel c kind found) may =
    (may.0, λ c' below. stays.permanent (channel_made c') (may.1 c' below))
condition_stays l n own st st' stays (Claim s i c found) may =
    (may.0, may.1, stays.had (the_hold c) may.2, λ i' below. stays.permanent (index_claimed s.0 i') (may.3 i' below))
condition_stays l n own st st' stays (RaiseKeys s k found) may =
    (may.0, may.1, λ i below. stays.permanent (index_claimed s.0 i) (may.2 i below))
condition_stays l n own st st' stays (Publish s i found) may =
    (may.0, publish_stays n own st st' stays (own_claim s.0 i own) may.1, stays.had (a_change s i) may.2)
condition_stays l n own st st' stays (Enrol c s i serial found) may =
    (may.0, may.1, may.2, stays.had (the_hold c) may.3, may.4)
condition_stays l n own st st' stays (BeginLook s found) may = (may.0, stays.had (the_turn s) may.1)
condition_stays l n own st st' stays (GiveTurn s) may = (may.0, stays.had (the_turn s) may.1)
condition_stays l n own st st' stays (Remove s i found) may = (
  may.0,
  or_stays (may_remove_cancelled st n s i) (may_clear_out st own n s i) (may_remove_cancelled st' n s i)
      (may_clear_out st' own n s i) (stays.sweep s i) (clear_out_stays n own st st' stays s i) may.1,
)
condition_stays l n own st st' stays (LookMark s i found) may = (may.0, pin_or_begun_stays n st st' stays s i may.1)
condition_stays l n own st st' stays (Mark s i from told found) may = (may.0, stays.had (a_selection s) may.1, may.2)
condition_stays l n own st st' stays (UnselectBit s i found) may = (may.0, stays.had (a_pin s i) may.1)
condition_stays l n own st st' stays (EndWake s found) may = (may.0, stays.had (a_selection s) may.1)
condition_stays l n own st st' stays (RaiseChannels k found) may =
    (may.0, λ c below. stays.permanent (channel_made c) (may.1 c below))
condition_stays l n own st st' stays (TryHoldBit c found) may = (may.0, stays.permanent (channel_made c.0) may.1)
condition_stays l n own st st' stays (Release c) may = (may.0, stays.had (the_hold c) may.1)
condition_stays l n own st st' stays (SetMode c blocking found) may = (may.0, stays.had (the_hold c) may.1, may.2)
condition_stays l n own st st' stays (CloseBit c from found) may = (may.0, was_open_stays n st st' stays c from may.1)
condition_stays l n own st st' stays (Enter s found) may = (may.0, stays.permanent (selector_closed_by s n) may.1)
condition_stays l n own st st' stays (Pin s i found) may =
    (may.0, stays.permanent (index_claimed s.0 i) may.1, stays.unpinned s i may.2)
condition_stays l n own st st' stays (Unpin s i) may = (may.0, stays.had (a_pin s i) may.1)
condition_stays l n own st st' stays (ClaimAgain s i c from found) may =
    (may.0, may.1, stays.had (the_hold c) may.2, stays.had (a_taken_index s i) may.3, may.4, may.5)
condition_stays l n own st st' stays (PutFree s i) may = (
  may.0,
  or_stays (has_taken st n s i) (may_put_due st n s i) (has_taken st' n s i) (may_put_due st' n s i)
      (stays.had (a_taken_index s i)) (stays.put_dropped s i) may.1,
)
condition_stays l n own st st' stays (Reopen c from found) may =
    (may.0, stays.had (the_hold c) may.1, may.2, may.3, may.4, may.5)
condition_stays l n own st st' stays (Touch s i found) may = (may.0, pin_or_begun_stays n st st' stays s i may.1)
condition_stays l n own st st' stays (TakeTouched s j found) may =
    (may.0, may.1, stays.had (a_selection s) may.2, stays.permanent (list_had_by s n) may.3)
condition_stays l n own st st' stays act may = may

-- ---- the steps of others

-- where n has a turn, no other caller has it
not_other : (me n : CallerNo) (o : Option CallerNo) → (me.0 == n.0) ≡ false → is_held_by me o ≡ true
    → is_held_by n o ≡ true → ⊥
not_other me n o other its own_number =
    both_ways (me.0 == n.0) (eq-eqb me.0 n.0 (one_holder me n o its own_number)) other

begun_holder : (st : State) (n : CallerNo) (s : SelNo) → has_begun st n s ≡ true → is_held_by n (st.turn s.0) ≡ true
begun_holder st n s begun = (and_parts (has_turn st n s) (st.begun s.0) begun).0

-- caller n has begun on the selector of this number
abbrev has_begun_on : State → CallerNo → ℕ → Bool
has_begun_on st n s = is_held_by n (st.turn s) && st.begun s

-- a key of the cancelled set stays in it while a caller has begun, at the steps of others
cancelled_set_keeps : (l : Limits) (own : List Act) (st : State) (me n : CallerNo) → IsSound st → (me.0 == n.0) ≡ false
    → KeepsStages (Condition l own st me) st (λ s i k. has_begun_on st n s ≡ true → in_cancelled_set k ≡ true)
cancelled_set_keeps l own st me n sound other = record {
  claimed = λ s i c unclaimed_yet old begun. absurd (
      let in_set = cancelled_parts (st.key s.0 i) (old begun) in
      both_ways (st.key s.0 i).claimed
      (beyond-claimed st sound s.0 i
      (ap (λ b. b || (st.key s.0 i).cancelled || (st.key s.0 i).removed) in_set.published)) unclaimed_yet);
  published = λ s i found may old begun.
      subst (λ k. in_cancelled_set k ≡ true)
      (sym (published_already (st.key s.0 i) (cancelled_parts (st.key s.0 i) (old begun)).published)) (old begun);
  cancelled = λ s i found may old begun.
      subst (λ k. in_cancelled_set k ≡ true)
      (sym (cancelled_already (st.key s.0 i) (cancelled_parts (st.key s.0 i) (old begun)).cancelled)) (old begun);
  removed = λ s i found may old begun.
      elim (may_remove st own me s i may.1) [
        | inl sweep ↦ absurd
            (not_other me n (st.turn s.0) other (begun_holder st me s sweep.0) (begun_holder st n s begun))
        | inr clear ↦ absurd
            (both_ways (st.entered s.0) clear.0
            (sound.begun_open s.0 (and_parts (is_held_by n (st.turn s.0)) (st.begun s.0) begun).1))
      ];
  again = λ s i c from may unpinned old begun.
      absurd (both_ways (st.key s.0 i).removed
      (back_parts (st.key s.0 i) (sound.taken_back s.0 i (held_some me (st.taker s.0 i) may.3))).removed
      (cancelled_parts (st.key s.0 i) (old begun)).not_removed);
}

-- at the steps of others an index that a selection has still to put stays one
dropped_stays : (l : Limits) (own : List Act) (st : State) (me n : CallerNo) (act : Act) → IsSound st
    → Condition l own st me act → (me.0 == n.0) ≡ false
    → (s i : ℕ) → has_begun_on st n s ≡ true → st.put_due s i ≡ true → (effect st me act).put_due s i ≡ true
dropped_stays l own st me n (Remove s' i' found) sound may other s i begun =
    put_at_keeps (λ _ _ x. x ≡ true) st.put_due s'.0 i' _ (λ e. ap (λ b. b || (st.begun s'.0 && frees_index found)) e) s
    i
dropped_stays l own st me n (PutFree s' i') sound may other s i begun = λ h.
    put_at_keeps (λ a _ x. has_begun_on st n a ≡ true → x ≡ true) st.put_due s'.0 i' false
    (λ old begun'. absurd (not_put (old begun') begun')) s i (λ _. h) begun
  where
    not_put : st.put_due s'.0 i' ≡ true → has_begun_on st n s'.0 ≡ true → ⊥
    not_put dropped begun' =
        elim (or_cases (has_taken st me s' i') (may_put_due st me s' i') may.1) [
          | inl taken ↦ taken_not_dropped st sound me s' i' taken dropped
          | inr its ↦ not_other me n (st.turn s'.0) other
              (begun_holder st me s' (and_parts (has_begun st me s') (st.put_due s'.0 i') its).0)
              (begun_holder st n s' begun')
        ]
dropped_stays l own st me n (GiveTurn k) sound may other s i begun = λ h.
    put_keeps (λ a x. has_begun_on st n a ≡ true → x ≡ true) (λ a. st.put_due a i) k.0 false
    (λ _ begun'. absurd (not_other me n (st.turn k.0) other may.1 (begun_holder st n k begun'))) s (λ _. h) begun
dropped_stays l own st me n act sound may other s i begun = λ h. h

-- a pin is put only by its caller
unpinned_stays : (st : State) (me n : CallerNo) (act : Act) → (me.0 == n.0) ≡ false → (s i : ℕ)
    → not (st.pinned s i n.0) ≡ true → not ((effect st me act).pinned s i n.0) ≡ true
unpinned_stays st me n act other s i h = by_act act
  where
    keeps : (s' i' : ℕ) (x : Bool) → not (put_at st.pinned s' i' (put (st.pinned s' i') me.0 x) s i n.0) ≡ true
    keeps s' i' x = put_pin_keeps (λ _ _ m y. m ≡ n.0 → not y ≡ true) st.pinned s' i' me.0 x
        (λ _ same. absurd (both_ways (me.0 == n.0) (eq-eqb me.0 n.0 same) other)) s i n.0 (λ _. h) refl

    by_act : (act' : Act) → not ((effect st me act').pinned s i n.0) ≡ true
    by_act (Claim s' i' c found) = keeps s'.0 i' (st.pinned s'.0 i' me.0 || not found)
    by_act (ClaimAgain s' i' c from found) = keeps s'.0 i' (st.pinned s'.0 i' me.0 || not found)
    by_act (Pin s' i' found) = keeps s'.0 i' true
    by_act (Unpin s' i') = keeps s'.0 i' false
    by_act act' = h

-- what no step of another caller ends stands while caller n has no event
by_others : (l : Limits) (n : CallerNo) (before later : List Event) → IsLegal l (before ++ later) → mine n later ≡ []
    → (fact : State → Bool)
    → ((past : List Event) (e : Event) → IsLegal l past → IsStep l past e → (e.caller.0 == n.0) ≡ false
    → fact (state_after past) ≡ true → fact (effect (state_after past) e.caller e.act) ≡ true)
    → fact (state_after before) ≡ true → fact (state_after (before ++ later)) ≡ true
by_others l n before later legal nothing fact kept =
    without_from l (λ e. is_by n e && true) (λ events. fact (state_after events) ≡ true)
    (λ past e past_legal step spared here. subst (λ st. fact st ≡ true) (sym (state_after-more past e))
    (kept past e past_legal step (sym (and-true (is_by n e)) ∙ spared) here))
    before later legal (sym (has-mine (λ _. true) n later) ∙ ap (has (λ _. true)) nothing)

-- ---- the laws

pub beginnings_are_legal : BeginningsAreLegal
beginnings_are_legal l before after begins legal =
    legal_beginning l before begins.0 (subst (IsLegal l) (sym begins.1) legal)

pub facts_are_permanent : FactsArePermanent
facts_are_permanent l before after begins legal f here =
    subst (λ events. stands f (state_after events) ≡ true) begins.1
    (permanent_stands l before begins.0 (subst (IsLegal l) (sym begins.1) legal) f here)

-- a key that was cancelled or removed isn't valid
cancelled-invalid : (k : Stage) (serial : ℕ) → (was_cancelled k serial || was_removed k serial) ≡ true
    → is_valid_key k serial ≡ false
cancelled-invalid k serial h = by_order (nat_lt serial k.serial) refl h
  where
    fits_not : nat_lt serial k.serial ≡ true → fits k serial ≡ false
    fits_not lower = false_from_ne_true (fits k serial) again
      where
        again : fits k serial ≡ true → ⊥
        again fits' =
            let below : serial < k.serial = ltb-true serial k.serial lower in
            let same : k.serial ≡ serial = eqb-true k.serial serial
            (and_parts k.claimed (k.serial == serial) fits').1 in
            absurd (omega arith)

    by_bits : (f p c r : Bool) → ((f && c) || (f && r)) ≡ true → (f && (p && not r && not c)) ≡ false
    by_bits true true true true e = refl
    by_bits true true true false e = refl
    by_bits true true false true e = refl
    by_bits true true false false e = absurd cc
    by_bits true false c r e = refl
    by_bits false p c r e = refl

    by_order : (b : Bool) → nat_lt serial k.serial ≡ b
        → ((b || (fits k serial && k.cancelled)) || (b || (fits k serial && k.removed))) ≡ true
        → is_valid_key k serial ≡ false
    by_order true lower h' = ap (λ b. b && is_valid k) (fits_not lower)
    by_order false lower h' = by_bits (fits k serial) k.published k.cancelled k.removed h'

-- a published key that isn't valid was cancelled or removed
invalid-cancelled : (k : Stage) (serial : ℕ) → was_published k serial ≡ true → is_valid_key k serial ≡ false
    → (was_cancelled k serial || was_removed k serial) ≡ true
invalid-cancelled k serial published invalid = by_order (nat_lt serial k.serial) published
  where
    by_bits : (f p c r : Bool) → (f && p) ≡ true → (f && (p && not r && not c)) ≡ false → ((f && c) || (f && r)) ≡ true
    by_bits true true true r e i = refl
    by_bits true true false true e i = refl
    by_bits true true false false e i = absurd cc
    by_bits true false c r e i = absurd cc
    by_bits false p c r e i = absurd cc

    by_order : (b : Bool) → (b || (fits k serial && k.published)) ≡ true
        → ((b || (fits k serial && k.cancelled)) || (b || (fits k serial && k.removed))) ≡ true
    by_order true h = refl
    by_order false h = by_bits (fits k serial) k.published k.cancelled k.removed h invalid

pub invalid_keys_stay_invalid : InvalidKeysStayInvalid
invalid_keys_stay_invalid l before after begins legal s i serial published invalid =
    let k : Stage = (state_after before).key s i in
    let k' : Stage = (state_after after).key s i in
    cancelled-invalid k' serial
    (or_stays (was_cancelled k serial) (was_removed k serial) (was_cancelled k' serial) (was_removed k' serial)
    (facts_are_permanent l before after begins legal (key_cancelled s i serial))
    (facts_are_permanent l before after begins legal (key_removed s i serial))
    (invalid-cancelled k serial published invalid))

pub only_itself_gives_back : OnlyItselfGivesBack
only_itself_gives_back l n before later legal f kept here = had_stands l n before later legal f kept here

-- what stands for caller n in the state before it stands in the state after steps of others
pub conditions_stay : ConditionsStay
conditions_stay l n before after begins legal same act may =
    let later : List Event = begins.0 in
    let legal' : IsLegal l (before ++ later) = subst (IsLegal l) (sym begins.1) legal in
    let nothing : mine n later ≡ [] = none_further n before later (ap (mine n) begins.1 ∙ same) in
    let stays : StandsFor n (state_after before) (state_after (before ++ later)) = record {
      permanent = permanent_stands l before later legal';
      had = own_stands l n before later legal' nothing;
      sweep = λ s i. by_others l n before later legal' nothing (λ st. may_remove_cancelled st n s i)
          (λ past e past_legal step other here.
          let st : State = state_after past in
          let sound : IsSound st = legal-sound l past past_legal in
          let both = and_parts (has_begun st n s) (in_cancelled_set (st.key s.0 i)) here in
          and_from (has_begun (effect st e.caller e.act) n s) (in_cancelled_set ((effect st e.caller e.act).key s.0 i))
          (begun_still l past e sound step other s both.0)
          (stages_keep (Condition l (mine e.caller past) st e.caller) st e.caller
          (λ a _ k. has_begun_on st n a ≡ true → in_cancelled_set k ≡ true)
          (cancelled_set_keeps l (mine e.caller past) st e.caller n sound other) e.act step.condition step.answers s.0 i
          (λ _. both.1) both.0));
      put_dropped = λ s i. by_others l n before later legal' nothing (λ st. may_put_due st n s i)
          (λ past e past_legal step other here.
          let st : State = state_after past in
          let sound : IsSound st = legal-sound l past past_legal in
          let both = and_parts (has_begun st n s) (st.put_due s.0 i) here in
          and_from (has_begun (effect st e.caller e.act) n s) ((effect st e.caller e.act).put_due s.0 i)
          (begun_still l past e sound step other s both.0)
          (dropped_stays l (mine e.caller past) st e.caller n e.act sound step.condition other s.0 i both.0 both.1));
      unpinned = λ s i. by_others l n before later legal' nothing (λ st. not (has_pin st n s i))
          (λ past e past_legal step other here. unpinned_stays (state_after past) e.caller n e.act other s.0 i here);
    } in
    subst (λ own. Condition l own (state_after after) n act) (sym same)
    (subst (λ events. Condition l (mine n before) (state_after events) n act) begins.1
    (condition_stays l n (mine n before) (state_after before) (state_after (before ++ later)) stays act may))
  where
    begun_still : (l' : Limits) (past : List Event) (e : Event) → IsSound (state_after past) → IsStep l' past e
        → (e.caller.0 == n.0) ≡ false → (s : SelNo)
        → has_begun (state_after past) n s ≡ true → has_begun (effect (state_after past) e.caller e.act) n s ≡ true
    begun_still l' past e sound step other s begun =
        lasts_alone l' (mine e.caller past) (state_after past) e.caller n e.act sound step.condition step.answers
        (a_selection s)
        (ap (λ b. b && gives_turn s.0 e.act) other) begun
