-- What stands of the key that a registration answers.
use Rattle.std.proofs.Common.{◌≡◌, ℕ, ◌==◌, Bool, true, false, ◌&&◌, ◌||◌, Option, Some, None, List, [], ◌∷◌, ◌++◌}
use Rattle.std.proofs.Common.{refl, ap, sym, ◌∙◌, subst, append_assoc, eq-eqb}
use Rattle.std.specs.Prelude.{nat_lt}
use Rattle.std.proofs.lemmas.Bool.{and_from, or_right}
use Rattle.std.proofs.lemmas.List.{append-nil}
use Rattle.std.proofs.Math.Bool.{and-false, or-false}
use Rattle.nio_base.specs.declared.numbers.CallerNo.{CallerNo}
use Rattle.nio_base.specs.declared.numbers.ChanId.{ChanId}
use Rattle.nio_base.specs.declared.numbers.ChanNo.{ChanNo}
use Rattle.nio_base.specs.declared.numbers.KeyId.{KeyId}
use Rattle.nio_base.specs.declared.numbers.KeyNo.{KeyNo}
use Rattle.nio_base.specs.declared.numbers.SelNo.{SelNo}
use Rattle.nio_history.proofs.Finds.{step_leaves}
use Rattle.nio_history.proofs.Holder.{held_since}
use Rattle.nio_history.proofs.Holds.{found_enrolled_stays}
use Rattle.nio_history.proofs.LastsAlone.{same_two}
use Rattle.nio_history.proofs.OneMore.{has-more, mine-append}
use Rattle.nio_history.proofs.PassViews.{key_after, lasts_over}
use Rattle.nio_history.proofs.PinLaws.{own_claims_stand, enrolled_keys_are_claimed}
use Rattle.nio_history.proofs.Put.{put_at-same}
use Rattle.nio_history.proofs.Stays.{beginnings_are_legal}
use Rattle.nio_history.specs.Conditions.{IsKey, holds, may_publish, is_amid}
use Rattle.nio_history.specs.Found.{finds, Leaves}
use Rattle.nio_history.specs.Histories.{state_after, event_of, mine, IsLegal}
use Rattle.nio_history.specs.Permanent.{channel_closed, key_published, key_cancelled, a_change}
use Rattle.nio_history.specs.OwnEvents.{has, last, under, takes_hold, finds_unblocked, enrolled_found, own_claim}
use Rattle.nio_history.specs.OwnEvents.{is_clear}
use Rattle.nio_history.specs.PassViews.{Holds as HoldsNumber, HasKey}
use Rattle.nio_history.specs.Pins.{IsOfClaim}
use Rattle.nio_history.specs.Sets.{fits, is_in_key_set, was_published, is_open_channel}
use Rattle.nio_channel.proofs.Chans.{open_unclosed}
use Rattle.nio_history.specs.State.{State}
use Rattle.nio_history.specs.declared.act.Act.{Act}
use Rattle.nio_history.specs.declared.act.Act.TheVariants.{LookChannel, CancelKey, Enrol, Publish, Pin, Release, Touch}
use Rattle.nio_history.specs.declared.act.Act.TheVariants.{SwapInterest, SwapNote}
use Rattle.nio_history.specs.declared.event.Event.{Event}
use Rattle.nio_history.specs.declared.found.Chan.{Chan}
use Rattle.nio_history.specs.declared.found.Stage.{Stage}
use Rattle.nio_steps.specs.Names.{key}
use Rattle.nio_words.proofs.Pins.{changes_pins, stays_pinned}
use Rattle.nio_words.proofs.Views.{finds_drawn, step_acts, found_now, touched_amid}
use Rattle.nio_words.specs.Passes.{seen, state_seen, acts_seen, limits_of}
use Rattle.nio_words.specs.Steps.{Steps}
use Rattle.nio_words.specs.Views.{view, IsPinned}
use Rattle.nio_words.specs.declared.words.Pass.{Pass}
use Rattle.nio_words.specs.declared.words.Words.{Words}
use Rattle.nio_channel.proofs.Held.{finds_closed, own_more, had_stays, unblocked_over, unblocked_stays}
use Rattle.nio_channel.proofs.Held.{in_set_published}
use Rattle.nio_channel.proofs.Own.{is_quiet, under-more, told_quiet, told_enrol, told_over, clear_pinned}
use Rattle.nio_channel.proofs.Own.{claim_published, claim_stays}
use Rattle.nio_channel.specs.Held.{HoldsUnblocked, MayEnrol, KnowsEnrolled, KnowsKey, HasClaimed, HasPublished}
use Rattle.nio_channel.specs.Held.{HasRegistered}
use Rattle.nio_channel.specs.Registered.{found_closed, IsKeyOf, IsCancelledWhereClosed}

-- ---- the enrolled key

pub enrolled_stays : {w : Words} {p q : Pass} {me : CallerNo} {act : Act} (c : ChanNo) (s : SelNo) (k : KeyId)
    → Steps w p q me act → finds_drawn act ≡ false → takes_hold c.0 act ≡ false
    → enrolled_found c.0 s.0 act ≡ None → KnowsEnrolled p me c s k → KnowsEnrolled q me c s k
enrolled_stays {p = p} {me = me} {act = act} c s k steps new takes silent enrolled =
    ap (λ own. last (enrolled_found c.0 s.0) (under c.0 own)) (own_more steps new)
    ∙ (told_over c.0 s.0 (acts_seen p me) act takes silent ∙ enrolled)

-- ---- the channel was found closed

found_closed-same : {w : Words} {p q : Pass} {me : CallerNo} {act : Act} (c : ChanId) → Steps w p q me act
    → finds_drawn act ≡ false → takes_hold c.number.0 act ≡ false
    → finds act (channel_closed c.number.0 c.serial) ≡ false
    → found_closed (view w q) me c ≡ found_closed (view w p) me c
found_closed-same {p = p} {me = me} {act = act} c steps new takes silent =
    ap (has (finds_closed c)) (ap (under c.number.0) (own_more steps new))
    ∙ (ap (has (finds_closed c)) (under-more c.number.0 (acts_seen p me) act takes)
    ∙ (has-more (finds_closed c) (under c.number.0 (acts_seen p me)) act
    ∙ (ap (λ b. has (finds_closed c) (under c.number.0 (acts_seen p me)) || b) silent
    ∙ or-false (has (finds_closed c) (under c.number.0 (acts_seen p me))))))

-- ---- a key that the channel has

pub knows_key_stays : {w : Words} {p q : Pass} {me : CallerNo} {act : Act} {c : ChanId} {s : SelNo} {k : KeyId}
    → Steps w p q me act → finds_drawn act ≡ false → is_quiet act ≡ true
    → changes_pins act ≡ false → KnowsKey w p me c s k → KnowsKey w q me c s k
knows_key_stays {p = p} {me = me} {act = act} {c = c} {s = s} {k = k} steps new quiet pins here = record {
  unblocked = unblocked_stays steps new quiet here.unblocked;
  pinned = stays_pinned steps new pins here.pinned;
  enrolled = ap (λ own. last (enrolled_found c.number.0 s.0) (under c.number.0 own)) (own_more steps new)
      ∙ (told_quiet c.number.0 s.0 (acts_seen p me) act quiet ∙ here.enrolled);
  has = key_after (step_acts steps new) here.has;
}

-- the index of the enrolled key is pinned, and its stage shows the key in the key set
pub pinned_key : {w : Words} {p q : Pass} {me : CallerNo} {s : SelNo} {k : KeyId} {stage : Stage}
    → Steps w p q me (Pin s k.index stage) → IsKey (limits_of w) s k.index
    → is_in_key_set stage k.serial ≡ true → HasKey (view w q) (key s k)
pinned_key {s = s} {k = k} {stage = stage} steps inside found = record {
  inside = inside;
  published = found_now (key_published s.0 k.index k.serial) (step_acts steps refl)
      (ap (λ b. b && was_published stage k.serial) (same_two s.0 k.index) ∙ in_set_published stage k.serial found);
}

-- or it doesn't
pub pinned_outside : {w : Words} {p q : Pass} {me : CallerNo} {c : ChanId} {s : SelNo} {k : KeyId} {stage : Stage}
    → Steps w p q me (Pin s k.index stage) → HoldsUnblocked w p me c
    → KnowsEnrolled p me c.number s k → is_in_key_set stage k.serial ≡ false → MayEnrol w q me c s
pinned_outside {p = p} {me = me} {c = c} {s = s} {k = k} {stage = stage} steps here enrolled out = record {
  unblocked = unblocked_stays steps refl refl here;
  clear = ap (is_clear c.number.0 s.0) (own_more steps refl)
      ∙ clear_pinned c.number.0 s k stage (acts_seen p me) out enrolled;
}

-- ---- a key that is made

pub enrolled_unblocked : {w : Words} {p q : Pass} {me : CallerNo} {c : ChanId} {s : SelNo} {i serial : ℕ}
    {before : Option KeyId} → Steps w p q me (Enrol c.number s i serial before)
    → HoldsUnblocked w p me c → HoldsUnblocked w q me c
enrolled_unblocked steps here = unblocked_over steps refl refl refl refl here

pub enrolled_known : {w : Words} {p q : Pass} {me : CallerNo} {c : ChanNo} {s : SelNo} {k : KeyId}
    {before : Option KeyId} → Steps w p q me (Enrol c s k.index k.serial before)
    → KnowsEnrolled q me c s k
enrolled_known {p = p} {me = me} {c = c} {s = s} {k = k} {before = before} steps =
    ap (λ own. last (enrolled_found c.0 s.0) (under c.0 own)) (own_more steps refl)
    ∙ told_enrol c s k before (acts_seen p me)

-- a caller that claimed the index for the channel may publish its key
pub may_publish_claimed : {w : Words} {p : Pass} {me : CallerNo} {c : ChanId} {s : SelNo} {k : KeyId}
    → HoldsUnblocked w p me c → HasClaimed w p me c.number s k
    → may_publish (state_seen p) (acts_seen p me) me (own_claim s.0 k.index (acts_seen p me)) ≡ true
may_publish_claimed {w = w} {p = p} {me = me} {c = c} here claimed =
    ap (may_publish (state_seen p) (acts_seen p me) me) claimed.claim
    ∙ and_from (holds (state_seen p) me c.number)
    (has (finds_unblocked c.number.0) (under c.number.0 (acts_seen p me)))
    here.held.holding here.unblocked

-- the index has the key that its caller claimed
of_claim : (w : Words) (p : Pass) (me : CallerNo) (c : ChanNo) (s : SelNo) (k : KeyId) → IsLegal (limits_of w) (seen p)
    → own_claim s.0 k.index (acts_seen p me) ≡ Some (record { channel = c; serial = k.serial })
    → IsOfClaim (record { channel = c; serial = k.serial }) ((state_seen p).key s.0 k.index)
of_claim w p me c s k legal claim =
    (own_claims_stand (limits_of w) me s k.index (record { channel = c; serial = k.serial })
    (seen p) w.fit legal claim).1

fits_claim : (stage : Stage) (c : ChanNo) (serial : ℕ) → IsOfClaim (record { channel = c; serial = serial }) stage
    → fits stage serial ≡ true
fits_claim stage c serial its =
    and_from stage.claimed (stage.serial == serial) its.claimed (eq-eqb stage.serial serial its.serial)

-- who touched the index under its pin is amid a change of it still when the key is enrolled
pub amid_enrolled : {w : Words} {p q r x y : Pass} {me : CallerNo} {c : ChanNo} {s : SelNo} {i serial : ℕ}
    {ops ops_before att att_before : ℕ} {was : Bool} {enrolled_before : Option KeyId}
    → Steps w p q me (Touch s i was) → Steps w q r me (SwapInterest s i ops ops_before)
    → Steps w r x me (SwapNote s i att att_before) → Steps w x y me (Enrol c s i serial enrolled_before)
    → IsPinned w q me s i → is_amid (state_seen y) me s i ≡ true
amid_enrolled {s = s} {i = i} touch set note enrol pinned =
    had_stays (a_change s i) enrol refl refl note.pass
    (had_stays (a_change s i) note refl refl set.pass
    (had_stays (a_change s i) set refl refl touch.pass
    (touched_amid (step_acts touch refl) pinned.only.here)))

-- its key was just published
pub has_published : {w : Words} {p q : Pass} {me : CallerNo} {c : ChanId} {s : SelNo} {k : KeyId} {stage : Stage}
    → Steps w p q me (Publish s k.index stage) → HoldsUnblocked w p me c
    → KnowsEnrolled p me c.number s k → HasClaimed w p me c.number s k
    → is_amid (state_seen p) me s k.index ≡ true → HasPublished w q me c s k
has_published {w = w} {p = p} {q = q} {me = me} {c = c} {s = s} {k = k} {stage = stage} steps here enrolled claimed
    amid =
    record {
      known = record {
        unblocked = unblocked_over steps refl refl refl refl here;
        pinned = stays_pinned steps refl refl claimed.pinned;
        enrolled = enrolled_stays c.number s k steps refl refl refl enrolled;
        has = record {
          inside = claimed.pinned.inside;
          published = or_right (nat_lt k.serial now.serial) (fits now k.serial && now.published)
              (and_from (fits now k.serial) now.published
              (fits_claim now c.number k.serial (of_claim w q me c.number s k steps.pass.legal claim)) published);
        };
      };
      claim = claim;
      amid = had_stays (a_change s k.index) steps refl refl claimed.pinned.ready.pass amid;
    }
  where
    now : Stage
    now = (state_seen q).key s.0 k.index

    claim : own_claim s.0 k.index (acts_seen q me) ≡ Some (record { channel = c.number; serial = k.serial })
    claim = ap (own_claim s.0 k.index) (own_more steps refl)
        ∙ (claim_published s.0 k.index s k.index stage (acts_seen p me) ∙ claimed.claim)

    published : now.published ≡ true
    published =
        let leaves = step_leaves (limits_of w) (HoldsNumber (view w p)) me (Publish s k.index stage) (seen p) (seen q)
        (step_acts steps refl).history in
        let before : State = state_after (seen p ++ leaves.between) in
        ap (λ st. (st.key s.0 k.index).published) leaves.state
        ∙ ap (λ x. x.published)
        (put_at-same before.key s.0 k.index (record (before.key s.0 k.index) { published = true }))

-- the channel was found open after that
pub settled_open : {w : Words} {p q : Pass} {me : CallerNo} {c : ChanId} {s : SelNo} {k : KeyId} {found : Chan}
    → Steps w p q me (LookChannel c.number found) → is_open_channel found c.serial ≡ true
    → HasPublished w p me c s k → HasRegistered w q me c s (key s k)
settled_open {w = w} {p = p} {q = q} {me = me} {c = c} {s = s} {k = k} {found = found} steps opens here = record {
  in_selector = refl;
  has = key_after (step_acts steps refl) here.known.has;
  enrolled = enrolled_stays c.number s k steps refl refl refl here.known.enrolled;
  cancelled = λ closed.
      let clash : true ≡ false = sym closed
      ∙ (found_closed-same {w = w} c steps refl refl
      (ap (λ b. (c.number.0 == c.number.0) && b) (open_unclosed found c.serial opens)
      ∙ and-false (c.number.0 == c.number.0))
      ∙ here.known.unblocked.unclosed) in
      absurd cc;
}

-- or it was found closed, and the key was cancelled
pub settled_cancelled : {w : Words} {p q r : Pass} {me : CallerNo} {c : ChanId} {s : SelNo} {k : KeyId} {found : Chan}
    {stage : Stage} → Steps w p q me (LookChannel c.number found)
    → Steps w q r me (CancelKey s k.index stage) → HasPublished w p me c s k → HasRegistered w r me c s (key s k)
settled_cancelled {w = w} {p = p} {q = q} {r = r} {me = me} {c = c} {s = s} {k = k} {found = found} {stage = stage} look
    cancel here = record {
      in_selector = refl;
      has = key_after (step_acts cancel refl) (key_after (step_acts look refl) here.known.has);
      enrolled = enrolled_stays c.number s k cancel refl refl refl
          (enrolled_stays c.number s k look refl refl refl here.known.enrolled);
      cancelled = λ closed. or_right (nat_lt k.serial now.serial) (fits now k.serial && now.cancelled)
          (and_from (fits now k.serial) now.cancelled
          (fits_claim now c.number k.serial (of_claim w r me c.number s k cancel.pass.legal claim)) cancelled);
    }
  where
    now : Stage
    now = (state_seen r).key s.0 k.index

    claim : own_claim s.0 k.index (acts_seen r me) ≡ Some (record { channel = c.number; serial = k.serial })
    claim =
        ap (own_claim s.0 k.index) (own_more cancel refl)
        ∙ (claim_stays s.0 k.index (acts_seen q me) (CancelKey s k.index stage) refl
        ∙ (ap (own_claim s.0 k.index) (own_more look refl)
        ∙ (claim_stays s.0 k.index (acts_seen p me) (LookChannel c.number found) refl ∙ here.claim)))

    cancelled : now.cancelled ≡ true
    cancelled =
        let leaves = step_leaves (limits_of w) (HoldsNumber (view w q)) me (CancelKey s k.index stage) (seen q) (seen r)
        (step_acts cancel refl).history in
        let before : State = state_after (seen q ++ leaves.between) in
        ap (λ st. (st.key s.0 k.index).cancelled) leaves.state
        ∙ ap (λ x. x.cancelled)
        (put_at-same before.key s.0 k.index (record (before.key s.0 k.index) { cancelled = true }))

-- ---- after the registration

-- where the channel was found closed the key stays cancelled
pub cancelled_after : {w : Words} {p q : Pass} {me : CallerNo} {act : Act} (c : ChanId) (k : KeyNo) → Steps w p q me act
    → finds_drawn act ≡ false → takes_hold c.number.0 act ≡ false
    → finds act (channel_closed c.number.0 c.serial) ≡ false → IsCancelledWhereClosed (view w p) me c k
    → IsCancelledWhereClosed (view w q) me c k
cancelled_after {w = w} c k steps new takes unclosed here closed =
    lasts_over (key_cancelled k.sel.0 k.index k.serial) (step_acts steps new)
    (here (sym (found_closed-same {w = w} c steps new takes unclosed) ∙ closed))

-- a step that doesn't take a hold, enrol a key or look at the channel
pub registered_stays : {w : Words} {p q : Pass} {me : CallerNo} {act : Act} {c : ChanId} {s : SelNo} {k : KeyNo}
    → Steps w p q me act → finds_drawn act ≡ false → takes_hold c.number.0 act ≡ false
    → enrolled_found c.number.0 s.0 act ≡ None → finds act (channel_closed c.number.0 c.serial) ≡ false
    → HasRegistered w p me c s k
    → HasRegistered w q me c s k
registered_stays {w = w} {p = p} {q = q} {me = me} {act = act} {c = c} {s = s} {k = k} steps new takes silent unclosed
    here = record {
      in_selector = here.in_selector;
      has = key_after (step_acts steps new) here.has;
      enrolled = enrolled_stays c.number s (record {
        index = k.index;
        serial = k.serial;
      }) steps new takes silent here.enrolled;
      cancelled = cancelled_after {w = w} c k steps new takes unclosed here.cancelled;
    }

-- when the hold is given back the enrolled key is the channel's
its_key : {w : Words} {p q : Pass} {me : CallerNo} (c : ChanNo) (s : SelNo) (k : KeyId) → Steps w p q me (Release c)
    → KnowsEnrolled p me c s k
    → ((state_seen q).key s.0 k.index).serial ≡ k.serial → ((state_seen q).key s.0 k.index).chan ≡ c
its_key {w = w} {p = p} {q = q} {me = me} c s k steps enrolled =
    subst (λ (st : State). (st.key s.0 k.index).serial ≡ k.serial → (st.key s.0 k.index).chan ≡ c) (sym leaves.state)
    (enrolled_keys_are_claimed (limits_of w) c s k mid w.fit legal there).1
  where
    leaves : Leaves (limits_of w) (HoldsNumber (view w p)) me (Release c) (seen p) (seen q)
    leaves = step_leaves (limits_of w) (HoldsNumber (view w p)) me (Release c) (seen p) (seen q)
        (step_acts steps refl).history

    mid : List Event
    mid = seen p ++ leaves.between

    legal : IsLegal (limits_of w) mid
    legal = beginnings_are_legal (limits_of w) mid (seen q) (
      event_of me (Release c) ∷ [],
      append_assoc (seen p) leaves.between (event_of me (Release c) ∷ [])
          ∙ sym leaves.parts,
    ) steps.pass.legal

    same : mine me mid ≡ mine me (seen p)
    same = mine-append me (seen p) leaves.between
        ∙ (ap (λ acts. mine me (seen p) ++ acts) leaves.own ∙ append-nil (mine me (seen p)))

    there : (state_after mid).enrolled c.0 s.0 ≡ Some k
    there =
        let since = held_since (limits_of w) me c mid legal leaves.step.condition.1 in
        ap (λ evs. (state_after evs).enrolled c.0 s.0) since.whole
        ∙ found_enrolled_stays (limits_of w) me c since.before since.later since.keeps s (Some k)
        (ap (last (enrolled_found c.0 s.0)) (sym since.own)
        ∙ (ap (λ own. last (enrolled_found c.0 s.0) (under c.0 own)) same ∙ enrolled))

-- so is the answer of a registration
pub its_answer : {w : Words} {p q : Pass} {me : CallerNo} {c : ChanId} {s : SelNo} {k : KeyNo}
    → Steps w p q me (Release c.number) → HasRegistered w p me c s k → IsKeyOf (view w q) c k
its_answer {w = w} {p = p} {q = q} {me = me} {c = c} {s = s} {k = k} steps here =
    subst (λ (x : SelNo). ((state_seen q).key x.0 k.index).serial ≡ k.serial
    → ((state_seen q).key x.0 k.index).chan ≡ c.number) (sym here.in_selector)
    (its_key {w = w} c.number s (record { index = k.index; serial = k.serial }) steps here.enrolled)
