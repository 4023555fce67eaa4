-- The debt of a cancelling: of a valid key of a closed channel, in every legal and careful history, its publisher or
-- who closed the channel owes the cancelling.
use Rattle.std.proofs.Common.{◌≡◌, ℕ, ◌==◌, Bool, true, false, not, ◌&&◌, ◌⊎◌, inl, inr, Option, Some, List, [], ◌∷◌}
use Rattle.std.proofs.Common.{◌++◌, append_assoc, refl, ap, sym, ◌∙◌, subst, eqb-true, eq-eqb, nat_lt, ◌||◌, arith}
use Rattle.std.proofs.Common.{if◌then◌else◌}
use Rattle.std.proofs.lemmas.Bool.{and_parts, and_from, or_from, or_right, or_cases, not-true, false_from_ne_true}
use Rattle.std.proofs.lemmas.Bool.{ltb-true}
use Rattle.nio_base.specs.Limits.{IsFit}
use Rattle.nio_base.specs.declared.limits.Limits.{Limits}
use Rattle.nio_base.specs.declared.numbers.CallerNo.{CallerNo}
use Rattle.nio_base.specs.declared.numbers.ChanId.{ChanId}
use Rattle.nio_base.specs.declared.numbers.ChanNo.{ChanNo}
use Rattle.nio_base.specs.declared.numbers.KeyId.{KeyId}
use Rattle.nio_history.proofs.Holds.{outside_told}
use Rattle.nio_history.proofs.LastsOnceSound.{permanent_stands}
use Rattle.nio_history.proofs.Legal.{legal_more, legal_next, legal_induction}
use Rattle.nio_history.proofs.OneMore.{state_after-more, mine-own, mine-other}
use Rattle.nio_history.proofs.Put.{put-same, put_at-there}
use Rattle.nio_history.proofs.Soundness.{legal-sound, both_ways}
use Rattle.nio_history.specs.Acts.{effect, closes_from, takes_close, closed_from}
use Rattle.nio_history.specs.Answers.{Answers}
use Rattle.nio_history.specs.Histories.{state_after, event_of, is_by, mine, IsStep, IsLegal}
use Rattle.nio_history.specs.OwnEvents.{finds_outside}
use Rattle.nio_history.specs.Permanent.{channel_closed}
use Rattle.nio_history.specs.Sets.{in_key_set, is_in_key_set, is_valid, fits_channel, was_closed}
use Rattle.nio_history.specs.Sound.{IsSound}
use Rattle.nio_history.specs.State.{State}
use Rattle.nio_history.specs.declared.act.Act.{Act}
use Rattle.nio_history.specs.declared.act.Act.TheVariants.{CancelKey, LookChannel, LookReg, CloseBit}
use Rattle.nio_history.specs.declared.event.Event.{Event}
use Rattle.nio_history.specs.declared.found.Chan.{Chan}
use Rattle.nio_history.specs.declared.found.Stage.{Stage}
use Rattle.nio_orderly.proofs.ActLists.{owes-more, AtEnd, Within, split_last}
use Rattle.nio_orderly.proofs.Careful.{beginnings_are_careful}
use Rattle.nio_orderly.proofs.KeySet.{WasThere, was_valid, came, came_closed}
use Rattle.nio_orderly.proofs.KeysStand.{KeysStand, keys_stand, set_claimed, set_fits, same_channel_step}
use Rattle.nio_orderly.proofs.Standing.{claimed_made}
use Rattle.nio_orderly.specs.Careful.{IsCareful}
use Rattle.nio_history.specs.OwnEvents.{closes}
use Rattle.nio_orderly.specs.Owed.{publishes_key, looks_at_channel, finds_closed, looks_for_key, finds_key}
use Rattle.nio_orderly.specs.Owed.{cancels, settles_key, Duty, owes, publisher_duty, closing_duty, OwesSince}
use Rattle.nio_orderly.specs.Owed.{finds_another, OwesCancelling, key_of, channel_of_key}
use Rattle.nio_steps.proofs.OwnActs.{cut_at}
use Rattle.nio_steps.specs.Names.{channel_of}

-- ---- a debt goes on

-- a debt that the step's looks find, and that the step doesn't settle, is owed after it
owes_on : (past : List Event) (e : Event) (makes : Act → Bool) (duty : Duty)
    → (duty.looks e.act ≡ true → duty.finds e.act ≡ true) → duty.settles e.act ≡ false
    → OwesSince past makes duty → OwesSince (past ++ e ∷ []) makes duty
owes_on past e makes duty finds unsettled debt = by_caller (is_by debt.caller e) refl
  where
    by_caller : (b : Bool) → is_by debt.caller e ≡ b → OwesSince (past ++ e ∷ []) makes duty
    by_caller true by = record {
      caller = debt.caller;
      before = debt.before;
      act = debt.act;
      since = debt.since ++ e.act ∷ [];
      did = mine-own debt.caller past e by
          ∙ (ap (λ acts. acts ++ e.act ∷ []) debt.did ∙ append_assoc debt.before (debt.act ∷ debt.since) (e.act ∷ []));
      made = debt.made;
      owing = owes-more duty debt.since e.act finds unsettled debt.owing;
    }
    by_caller false by = record {
      caller = debt.caller;
      before = debt.before;
      act = debt.act;
      since = debt.since;
      did = mine-other debt.caller past e by ∙ debt.did;
      made = debt.made;
      owing = debt.owing;
    }

-- who has just made an act that brings a debt owes it
owes_new : (past : List Event) (e : Event) (makes : Act → Bool) (duty : Duty) → makes e.act ≡ true
    → OwesSince (past ++ e ∷ []) makes duty
owes_new past e makes duty made = record {
  caller = e.caller;
  before = mine e.caller past;
  act = e.act;
  since = [];
  did = mine-own e.caller past e (eq-eqb e.caller.0 e.caller.0 refl);
  made = made;
  owing = refl;
}

-- ---- looks find that the debt stands

looks_closed : (st : State) (me : CallerNo) (act : Act) (c : ℕ) → Answers st me act → (st.chan c).closed ≡ true
    → looks_at_channel c act ≡ true → finds_closed c act ≡ true
looks_closed st me (LookChannel k found) c answers closed looks =
    let same : k.0 ≡ c = eqb-true k.0 c looks in
    let found_is : found ≡ st.chan k.0 = cc in
    and_from (k.0 == c) found.closed looks
    (ap (λ x. x.closed) found_is ∙ subst (λ (m : ℕ). (st.chan m).closed ≡ true) (sym same) closed)
looks_closed st me act c answers closed looks = absurd (cc looks)

looks_enrolled : (st : State) (me : CallerNo) (act : Act) (c s : ℕ) (k : KeyId) → Answers st me act
    → st.enrolled c s ≡ Some k
    → looks_for_key c s act ≡ true → finds_key c s k act ≡ true
looks_enrolled st me (LookReg c' s' found) c s k answers enrolled looks =
    let both = and_parts (c'.0 == c) (s'.0 == s) looks in
    let first : c'.0 ≡ c = eqb-true c'.0 c both.0 in
    let second : s'.0 ≡ s = eqb-true s'.0 s both.1 in
    let found_is : found ≡ st.enrolled c'.0 s'.0 = cc in
    let its : st.enrolled c'.0 s'.0 ≡ Some k = subst (λ (m : ℕ). st.enrolled m s'.0 ≡ Some k) (sym first)
    (subst (λ (t : ℕ). st.enrolled c t ≡ Some k) (sym second) enrolled) in
    subst (λ (o : Option KeyId). finds_key c s k (LookReg c' s' o) ≡ true) (sym (found_is ∙ its))
    (and_from ((c'.0 == c) && (s'.0 == s)) ((k.index == k.index) && (k.serial == k.serial)) looks
    (and_from (k.index == k.index) (k.serial == k.serial) (eq-eqb k.index k.index refl)
    (eq-eqb k.serial k.serial refl)))
looks_enrolled st me act c s k answers enrolled looks = absurd (cc looks)

-- ---- nothing settles it while the key is valid

cancelled_now : (st : State) (me : CallerNo) (act : Act) (s i : ℕ) → cancels s i act ≡ true
    → ((effect st me act).key s i).cancelled ≡ true
cancelled_now st me (CancelKey s' i' found) s i told =
    ap (λ k. k.cancelled) (put_at-there st.key s'.0 i' (record (st.key s'.0 i') { cancelled = true }) s i told)
cancelled_now st me act s i told = absurd (cc told)

-- a step after which the key is valid didn't settle it
unsettled : (st : State) (me : CallerNo) (act : Act) (s i : ℕ) → Answers st me act → IsSound (effect st me act)
    → is_valid ((effect st me act).key s i) ≡ true
    → settles_key s (key_of (effect st me act) s i) act ≡ false
unsettled st me act s i answers sound valid =
    or_from (cancels s i act) (finds_outside s k act) (false_from_ne_true (cancels s i act) not_cancelled)
    (false_from_ne_true (finds_outside s k act) not_outside)
  where
    k : KeyId
    k = key_of (effect st me act) s i

    now : Stage
    now = (effect st me act).key s i

    parts : (in_key_set now ≡ true) × (not now.cancelled ≡ true)
    parts = and_parts (in_key_set now) (not now.cancelled) valid

    not_cancelled : cancels s i act ≡ true → ⊥
    not_cancelled told = both_ways now.cancelled (cancelled_now st me act s i told) (not-true now.cancelled parts.1)

    not_outside : finds_outside s k act ≡ true → ⊥
    not_outside told =
        both_ways (is_in_key_set now k.serial) (set_fits (effect st me act) sound s i parts.0)
        (outside_told st me act s k answers told)

-- ---- in every history

-- who closed a channel
pub record ClosedBy (events : List Event) (c : ChanId) : Type 0 where
  pub caller : CallerNo
  pub before : List Act
  pub act : Act
  pub since : List Act
  pub did : mine caller events ≡ before ++ act ∷ since
  pub closed : closes c act ≡ true

-- which act it is
pub record IsClosing (c : ChanId) (act : Act) : Type 0 where
  pub from : Chan
  pub found : Chan
  pub is : act ≡ CloseBit c.number from found
  pub serial : from.serial ≡ c.serial
  pub takes : takes_close from found ≡ true

pub is_closing : (c : ChanId) (act : Act) → closes c act ≡ true → IsClosing c act
is_closing c (CloseBit k from found) told =
    let both = and_parts ((k.0 == c.number.0) && (from.serial == c.serial)) (takes_close from found) told in
    let two = and_parts (k.0 == c.number.0) (from.serial == c.serial) both.0 in
    record {
      from = from;
      found = found;
      is = ap (λ (m : ℕ). CloseBit (record { 0 = m }) from found) (eqb-true k.0 c.number.0 two.0);
      serial = eqb-true from.serial c.serial two.1;
      takes = both.1;
    }
is_closing c act told = absurd (cc told)

-- the channel that a number has, where that is closed, was closed by somebody
pub closed_by : (l : Limits) (c : ChanNo) (events : List Event) → IsLegal l events
    → ((state_after events).chan c.0).closed ≡ true
    → ClosedBy events (channel_of c ((state_after events).chan c.0).serial)
closed_by l c =
    legal_induction l
    (λ evs. ((state_after evs).chan c.0).closed ≡ true
    → ClosedBy evs (channel_of c ((state_after evs).chan c.0).serial)) (λ closed. absurd cc) each
  where
    each : (past : List Event) (e : Event) → IsLegal l past → IsStep l past e
        → (((state_after past).chan c.0).closed ≡ true
        → ClosedBy past (channel_of c ((state_after past).chan c.0).serial))
        → ((state_after (past ++ e ∷ [])).chan c.0).closed ≡ true
        → ClosedBy (past ++ e ∷ []) (channel_of c ((state_after (past ++ e ∷ [])).chan c.0).serial)
    each past e legal step before closed =
        subst (λ st. ClosedBy (past ++ e ∷ []) (channel_of c (st.chan c.0).serial)) (sym (state_after-more past e))
        (elim (came_closed (state_after past) e.caller e.act step.answers c
        (subst (λ st. (st.chan c.0).closed ≡ true) (state_after-more past e) closed)) [
          | inl was ↦
              subst (λ (q : ℕ). ClosedBy (past ++ e ∷ []) (channel_of c q)) (sym was.serial) (on (before was.closed))
          | inr told ↦
              record {
                caller = e.caller;
                before = mine e.caller past;
                act = e.act;
                since = [];
                did = mine-own e.caller past e (eq-eqb e.caller.0 e.caller.0 refl);
                closed = told;
              }
        ])
      where
        on : {d : ChanId} → ClosedBy past d → ClosedBy (past ++ e ∷ []) d
        on {d = d} by = by_caller (is_by by.caller e) refl
          where
            by_caller : (b : Bool) → is_by by.caller e ≡ b → ClosedBy (past ++ e ∷ []) d
            by_caller true its = record {
              caller = by.caller;
              before = by.before;
              act = by.act;
              since = by.since ++ e.act ∷ [];
              did = mine-own by.caller past e its
                  ∙ (ap (λ acts. acts ++ e.act ∷ []) by.did ∙ append_assoc by.before (by.act ∷ by.since) (e.act ∷ []));
              closed = by.closed;
            }
            by_caller false its =
                record {
                  caller = by.caller;
                  before = by.before;
                  act = by.act;
                  since = by.since;
                  did = mine-other by.caller past e its ∙ by.did;
                  closed = by.closed;
                }

-- a channel is closed when the closing takes
closed_then : (l : Limits) (past : List Event) (n : CallerNo) (c : ChanNo) (from found : Chan)
    → IsStep l past (event_of n (CloseBit c from found)) → takes_close from found ≡ true
    → was_closed ((effect (state_after past) n (CloseBit c from found)).chan c.0) from.serial ≡ true
closed_then l past n c from found step takes =
    subst (λ x. was_closed x from.serial ≡ true)
    (sym (put-same st.chan c.0 (closed_from from was) ∙ ap (λ b. if b then now else was) closes_it))
    (or_right (nat_lt from.serial was.serial) ((was.made && (was.serial == from.serial)) && true)
    (and_from (was.made && (was.serial == from.serial)) true
    (and_from was.made (was.serial == from.serial) made
    (and_parts (was.serial == from.serial) (was.blocking || not from.blocking) closes_it).0) refl))
  where
    st : State
    st = state_after past

    was : Chan
    was = st.chan c.0

    now : Chan
    now = record was { closed = true; blocking = from.blocking }

    found_is : found ≡ st.chan c.0
    found_is =
        let answers : Answers st n (CloseBit c from found) = step.answers in
        cc answers

    closes_it : closes_from from was ≡ true
    closes_it = subst (λ (x : Chan). closes_from from x ≡ true) found_is
        (and_parts (closes_from from found) (not found.closed) takes).0

    made : was.made ≡ true
    made = (and_parts was.made (not (nat_lt was.serial from.serial)) step.condition.1.was).0

-- what somebody closed is closed, for good
closed_since : (l : Limits) (n : CallerNo) (c : ChanId) (events : List Event) (before : List Act) (act : Act)
    (since : List Act)
    → IsLegal l events → mine n events ≡ before ++ act ∷ since → closes c act ≡ true
    → was_closed ((state_after events).chan c.number.0) c.serial ≡ true
closed_since l n c events before act since legal did told =
    let its = is_closing c act told in
    let closing : Event = event_of n (CloseBit c.number its.from its.found) in
    let cut = cut_at n events before (CloseBit c.number its.from its.found) since
    (did ∙ ap (λ a. before ++ a ∷ since) its.is) in
    let joined : events ≡ (cut.past ++ closing ∷ []) ++ cut.later = cut.parts
    ∙ sym (append_assoc cut.past (closing ∷ []) cut.later) in
    let step = legal_next l cut.past closing cut.later (subst (IsLegal l) cut.parts legal) in
    let now : was_closed ((state_after (cut.past ++ closing ∷ [])).chan c.number.0) c.serial ≡ true =
    subst (λ st. was_closed (st.chan c.number.0) c.serial ≡ true) (sym (state_after-more cut.past closing))
    (subst (λ (q : ℕ). was_closed ((effect (state_after cut.past) n closing.act).chan c.number.0) q ≡ true) its.serial
    (closed_then l cut.past n c.number its.from its.found step its.takes)) in
    subst (λ evs. was_closed ((state_after evs).chan c.number.0) c.serial ≡ true) (sym joined)
    (permanent_stands l (cut.past ++ closing ∷ []) cut.later (subst (IsLegal l) joined legal)
    (channel_closed c.number.0 c.serial) now)

-- so the number's channel is closed, where it is that one
closed_present : (c : Chan) (serial : ℕ) → c.serial ≡ serial → was_closed c serial ≡ true → c.closed ≡ true
closed_present c serial same closed =
    elim (or_cases (nat_lt serial c.serial) (fits_channel c serial && c.closed) closed) [
      | inl later ↦ absurd (omega (arith, same, ltb-true serial c.serial later))
      | inr now ↦ (and_parts (fits_channel c serial) c.closed now).1
    ]

-- ---- a closer's look finds the channel

finds_same : (st : State) (me : CallerNo) (act : Act) (c : ChanId) → Answers st me act
    → fits_channel (st.chan c.number.0) c.serial ≡ true → finds_another c act ≡ false
finds_same st me (LookChannel k found) c answers present = by_test (k.0 == c.number.0) refl
  where
    found_is : found ≡ st.chan k.0
    found_is = cc

    by_test : (b : Bool) → (k.0 == c.number.0) ≡ b → (b && not (fits_channel found c.serial)) ≡ false
    by_test true same =
        ap not (subst (λ (x : Chan). fits_channel x c.serial ≡ true) (sym found_is)
        (subst (λ (m : ℕ). fits_channel (st.chan m) c.serial ≡ true) (sym (eqb-true k.0 c.number.0 same)) present))
    by_test false other = refl
finds_same st me act c answers present = refl

-- ---- what is owed of a closed channel's key

-- of a valid key of a channel that a caller closed, the publisher owes the cancelling, or that caller does
abbrev pub IsOwedBy : List Event → ℕ → ℕ → Type 0
IsOwedBy events s i =
    is_valid ((state_after events).key s i) ≡ true
    → (n : CallerNo) (before : List Act) (c : ChanId) (act : Act) (since : List Act)
    → mine n events ≡ before ++ act ∷ since → closes c act ≡ true → channel_of_key (state_after events) s i ≡ c
    → OwesSince events (publishes_key c.number.0 s (key_of (state_after events) s i))
    (publisher_duty c.number.0 s (key_of (state_after events) s i))
    ⊎ (owes (closing_duty c s (key_of (state_after events) s i)) since ≡ true)

owed_step : (l : Limits) (past : List Event) (e : Event) → IsFit l → IsLegal l past → IsStep l past e → IsCareful past
    → (s i : ℕ) → IsOwedBy past s i
    → is_valid ((effect (state_after past) e.caller e.act).key s i) ≡ true
    → (n : CallerNo) (before : List Act) (c : ChanId) (act : Act) (since : List Act)
    → mine n (past ++ e ∷ []) ≡ before ++ act ∷ since → closes c act ≡ true
    → channel_of_key (effect (state_after past) e.caller e.act) s i ≡ c
    → OwesSince (past ++ e ∷ []) (publishes_key c.number.0 s (key_of (effect (state_after past) e.caller e.act) s i))
    (publisher_duty c.number.0 s (key_of (effect (state_after past) e.caller e.act) s i))
    ⊎ (owes (closing_duty c s (key_of (effect (state_after past) e.caller e.act) s i)) since ≡ true)
owed_step l past e fit legal step careful s i earlier valid n before c act since did told of_channel =
    elim (came st me e.act step.answers s i parts.0) [
      | inr new ↦
          inl (owes_new past e (publishes_key c.number.0 s k) (publisher_duty c.number.0 s k)
          (subst (λ (x : ChanId). publishes_key x.number.0 s k e.act ≡ true) of_channel new))
      | inl was ↦ going_on was
    ]
  where
    me : CallerNo
    me = e.caller

    st : State
    st = state_after past

    was_key : Stage
    was_key = st.key s i

    now : Stage
    now = (effect st me e.act).key s i

    key : ℕ → ℕ → KeyId
    key j q = record { index = j; serial = q }

    k : KeyId
    k = key_of (effect st me e.act) s i

    parts : (in_key_set now ≡ true) × (not now.cancelled ≡ true)
    parts = and_parts (in_key_set now) (not now.cancelled) valid

    sound : IsSound (effect st me e.act)
    sound = subst IsSound (state_after-more past e) (legal-sound l (past ++ e ∷ []) (legal_more l past e legal step))

    stand : KeysStand st
    stand = keys_stand l fit past legal careful

    still : settles_key s k e.act ≡ false
    still = unsettled st me e.act s i step.answers sound valid

    Owing : List Act → Type 0
    Owing acts =
        OwesSince (past ++ e ∷ []) (publishes_key c.number.0 s k) (publisher_duty c.number.0 s k)
        ⊎ (owes (closing_duty c s k) acts ≡ true)

    going_on : WasThere was_key now → Owing since
    going_on was = by_caller (is_by n e) refl
      where
        its_channel : channel_of_key st s i ≡ c
        its_channel = sym (same_channel_step l past e fit legal step stand s i was) ∙ of_channel

        its_number : was_key.chan ≡ c.number
        its_number = ap (λ x. x.number) its_channel

        -- the channel is the present one of its number
        serial_now : (st.chan c.number.0).serial ≡ c.serial
        serial_now = subst (λ (x : ChanNo). (st.chan x.0).serial ≡ c.serial) its_number (ap (λ x. x.serial) its_channel)

        made : (st.chan c.number.0).made ≡ true
        made = subst (λ (x : ChanNo). (st.chan x.0).made ≡ true) its_number
            (claimed_made l past legal s i (set_claimed st (legal-sound l past legal) s i was.in_set))

        unsettling : settles_key s k e.act || finds_another c e.act ≡ false
        unsettling =
            or_from (settles_key s k e.act) (finds_another c e.act) still
            (finds_same st me e.act c step.answers
            (and_from (st.chan c.number.0).made ((st.chan c.number.0).serial == c.serial) made
            (eq-eqb (st.chan c.number.0).serial c.serial serial_now)))

        enrolled : st.enrolled c.number.0 s ≡ Some k
        enrolled = subst (λ (x : ChanNo). st.enrolled x.0 s ≡ Some k) its_number
            (stand.enrolled s i was.in_set ∙ ap (λ (q : ℕ). Some (key i q)) (sym was.serial))

        -- it was owed before, by what the closing caller did till then
        before_owed : (acts : List Act) → mine n past ≡ before ++ act ∷ acts
            → OwesSince past (publishes_key c.number.0 s k) (publisher_duty c.number.0 s k)
            ⊎ (owes (closing_duty c s k) acts ≡ true)
        before_owed acts did' =
            subst (λ (q : ℕ).
            OwesSince past (publishes_key c.number.0 s (key i q)) (publisher_duty c.number.0 s (key i q))
            ⊎ (owes (closing_duty c s (key i q)) acts ≡ true)) (sym was.serial)
            (earlier (was_valid was_key now was valid) n before c act acts did' told its_channel)

        publisher_on : (acts : List Act) → mine n past ≡ before ++ act ∷ acts
            → OwesSince past (publishes_key c.number.0 s k) (publisher_duty c.number.0 s k)
            → OwesSince (past ++ e ∷ []) (publishes_key c.number.0 s k) (publisher_duty c.number.0 s k)
        publisher_on acts did' debt =
            owes_on past e (publishes_key c.number.0 s k) (publisher_duty c.number.0 s k)
            (looks_closed st me e.act c.number.0 step.answers
            (closed_present (st.chan c.number.0) c.serial serial_now
            (closed_since l n c past before act acts legal did' told))) still debt

        by_place : AtEnd (mine n past) e.act before act since ⊎ Within (mine n past) e.act before act since
            → Owing since
        by_place (inl last) = inr (ap (owes (closing_duty c s k)) last.later)
        by_place (inr more) = elim (before_owed more.rest more.before) [
          | inl debt ↦ inl (publisher_on more.rest more.before debt)
          | inr owing ↦
              inr (ap (owes (closing_duty c s k)) more.later
              ∙ owes-more (closing_duty c s k) more.rest e.act
              (looks_enrolled st me e.act c.number.0 s k step.answers enrolled) unsettling owing)
        ]

        by_caller : (b : Bool) → is_by n e ≡ b → Owing since
        by_caller true by =
            by_place (split_last (mine n past) e.act before act since (sym (mine-own n past e by) ∙ did))
        by_caller false by =
            let did' : mine n past ≡ before ++ act ∷ since = sym (mine-other n past e by) ∙ did in
            elim (before_owed since did') [
              | inl debt ↦ inl (publisher_on since did' debt)
              | inr owing ↦ inr owing
            ]

pub owed_by : (l : Limits) → IsFit l → (events : List Event) → IsLegal l events → IsCareful events → (s i : ℕ)
    → IsOwedBy events s i
owed_by l fit = legal_induction l (λ evs. IsCareful evs → (s i : ℕ) → IsOwedBy evs s i)
    (λ careful s i valid. absurd cc)
    (λ past e legal step before careful s i.
    subst (λ st. is_valid (st.key s i) ≡ true
    → (n : CallerNo) (b : List Act) (c : ChanId) (act : Act) (since : List Act)
    → mine n (past ++ e ∷ []) ≡ b ++ act ∷ since → closes c act ≡ true → channel_of_key st s i ≡ c
    → OwesSince (past ++ e ∷ []) (publishes_key c.number.0 s (key_of st s i))
    (publisher_duty c.number.0 s (key_of st s i))
    ⊎ (owes (closing_duty c s (key_of st s i)) since ≡ true))
    (sym (state_after-more past e))
    (owed_step l past e fit legal step (beginnings_are_careful past (past ++ e ∷ []) (e ∷ [], refl) careful) s i
    (before (beginnings_are_careful past (past ++ e ∷ []) (e ∷ [], refl) careful) s i)))

-- of a valid key of a closed channel somebody owes the cancelling
pub cancelling_owed : (l : Limits) → IsFit l → (events : List Event) → IsLegal l events → IsCareful events → (s i : ℕ)
    → is_valid ((state_after events).key s i) ≡ true
    → ((state_after events).chan ((state_after events).key s i).chan.0).closed ≡ true
    → OwesCancelling events (channel_of_key (state_after events) s i) s (key_of (state_after events) s i)
cancelling_owed l fit events legal careful s i valid closed =
    let c : ChanId = channel_of_key (state_after events) s i in
    let by = closed_by l c.number events legal closed in
    elim (owed_by l fit events legal careful s i valid by.caller by.before c by.act by.since by.did by.closed refl) [
      | inl debt ↦ inl debt
      | inr owing ↦
          inr (record {
            caller = by.caller;
            before = by.before;
            act = by.act;
            since = by.since;
            did = by.did;
            made = by.closed;
            owing = owing;
          })
    ]
