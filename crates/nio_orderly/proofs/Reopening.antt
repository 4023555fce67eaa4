-- A key of the key set is a key of one channel: nobody gives its channel's number to a new one.
use Rattle.std.proofs.Common.{◌≡◌, ℕ, ◌==◌, Bool, true, false, not, ◌&&◌, ◌||◌, inl, inr, List, [], ◌∷◌, ◌++◌}
use Rattle.std.proofs.Common.{append_assoc, refl, ap, sym, ◌∙◌, subst, eqb-true, eq-eqb, nat_lt, arith}
use Rattle.std.proofs.lemmas.Bool.{and_parts, and_from, or_cases, or_left, or_right, or_from, not-true, ltb-true}
use Rattle.std.proofs.lemmas.Bool.{false_from_ne_true}
use Rattle.std.proofs.lemmas.List.{append-nil, append_cancel_left}
use Rattle.std.proofs.lemmas.List.Folds.{list_any-append}
use Rattle.nio_base.specs.Limits.{IsFit}
use Rattle.nio_base.specs.declared.limits.Limits.{Limits}
use Rattle.nio_base.specs.declared.numbers.CallerNo.{CallerNo}
use Rattle.nio_base.specs.declared.numbers.ChanId.{ChanId}
use Rattle.nio_base.specs.declared.numbers.ChanNo.{ChanNo}
use Rattle.nio_history.proofs.PinLaws.{enrolled_keys_are_claimed}
use Rattle.nio_history.proofs.LastsOnceSound.{permanent_stands}
use Rattle.nio_history.proofs.Legal.{legal_beginning, legal_next, legal_from}
use Rattle.nio_history.proofs.OneMore.{state_after-more}
use Rattle.nio_history.proofs.Put.{put_at-same}
use Rattle.nio_history.proofs.Selections.{key_set_stays}
use Rattle.nio_history.proofs.Soundness.{legal-sound, both_ways}
use Rattle.nio_history.specs.Acts.{effect}
use Rattle.nio_history.specs.Answers.{Answers}
use Rattle.nio_history.specs.Histories.{state_after, event_of, IsStep, IsLegal}
use Rattle.nio_history.specs.OwnEvents.{reopens}
use Rattle.nio_history.specs.Permanent.{key_published, key_removed}
use Rattle.nio_history.specs.Sets.{fits, in_key_set, is_in_key_set, was_published, was_removed}
use Rattle.nio_history.specs.State.{State}
use Rattle.nio_history.specs.declared.act.Act.TheVariants.{Publish}
use Rattle.nio_history.specs.declared.event.Event.{Event}
use Rattle.nio_history.specs.declared.found.Stage.{Stage}
use Rattle.nio_orderly.proofs.Careful.{beginnings_are_careful}
use Rattle.nio_orderly.proofs.KeySet.{WasThere, came}
use Rattle.nio_orderly.proofs.KeysStand.{KeysStand, keys_stand, set_fits, not_reopened, same_channel_step}
use Rattle.nio_orderly.proofs.Published.{is_publish}
use Rattle.nio_orderly.specs.Careful.{IsCareful}
use Rattle.nio_orderly.specs.Owed.{key_of, channel_of_key}
use Rattle.nio_orderly.specs.Reopening.{is_reopened, KeysKeepTheirChannel, SelectionsKeepChannels}
use Rattle.nio_orderly.specs.Reopening.{PublishedFor, EnrolledKeysAreOfTheChannel}

-- ---- of a key that is in the key set at last

-- the events of the histories between
pub record Done (before events : List Event) : Type 0 where
  pub did : List Event
  pub whole : events ≡ before ++ did

-- What stands of a key, `R`, by what was done since a moment, whenever the key is in the key set: where it stands at
-- that moment, or as the key is published, and then stays.
pub record KeepsSince (l : Limits) (Good : List Event → Type 0) (before : List Event) (s i serial : ℕ)
    (R : List Event → State → Type 0) : Type 0 where
  pub careful : (events : List Event) → Good events → IsCareful events
  pub beginning : (past : List Event) (e : Event) → Good (past ++ e ∷ []) → Good past
  pub start : is_in_key_set ((state_after before).key s i) serial ≡ true → R [] (state_after before)
  pub published : (past : List Event) (e : Event) (did : List Event) → past ≡ before ++ did → IsLegal l past
      → IsStep l past e → Good (past ++ e ∷ [])
      → (found : Stage) → e.act ≡ Publish (record { 0 = s }) i found → found.serial ≡ serial
      → found.published ≡ false
      → R (did ++ e ∷ []) (effect (state_after past) e.caller e.act)
  pub stays : (past : List Event) (e : Event) (did : List Event) → IsLegal l past → IsStep l past e
      → KeysStand (state_after past)
      → WasThere ((state_after past).key s i) ((effect (state_after past) e.caller e.act).key s i)
      → R did (state_after past)
      → R (did ++ e ∷ []) (effect (state_after past) e.caller e.act)

pub keeps_since : (l : Limits) (Good : List Event → Type 0) (before later : List Event) (s i serial : ℕ)
    (R : List Event → State → Type 0) → IsFit l
    → KeepsSince l Good before s i serial R → IsLegal l (before ++ later) → Good (before ++ later)
    → is_in_key_set ((state_after (before ++ later)).key s i) serial ≡ true
    → R later (state_after (before ++ later))
keeps_since l Good before later s i serial R fit keeps legal good in_set =
    let all = legal_from l So each before later legal
    (record { did = []; whole = sym (append-nil before) }, λ _ in_set'. keeps.start in_set') in
    subst (λ did. R did (state_after (before ++ later)))
    (append_cancel_left before all.0.did later (sym all.0.whole)) (all.1 good in_set)
  where
    So : List Event → Type 0
    So events =
        (done : Done before events)
        × (Good events → is_in_key_set ((state_after events).key s i) serial ≡ true → R done.did (state_after events))

    each : (past : List Event) (e : Event) → IsLegal l past → IsStep l past e → So past → So (past ++ e ∷ [])
    each past e legal' step so = (
      record {
        did = so.0.did ++ e ∷ [];
        whole = ap (λ events. events ++ e ∷ []) so.0.whole ∙ append_assoc before so.0.did (e ∷ []);
      },
      λ good' in_set'. subst (R (so.0.did ++ e ∷ [])) (sym (state_after-more past e))
          (after good' (subst (λ st. is_in_key_set (st.key s i) serial ≡ true) (state_after-more past e) in_set')),
    )
      where
        st : State
        st = state_after past

        st' : State
        st' = effect st e.caller e.act

        after : Good (past ++ e ∷ []) → is_in_key_set (st'.key s i) serial ≡ true → R (so.0.did ++ e ∷ []) st'
        after good' in_set' = elim (came st e.caller e.act step.answers s i parts.1) [
          | inl was ↦
              let fits_it : is_in_key_set (st.key s i) serial ≡ true =
              subst (λ (q : ℕ). is_in_key_set (st.key s i) q ≡ true) (sym was.serial ∙ its_serial)
              (set_fits st (legal-sound l past legal') s i was.in_set) in
              keeps.stays past e so.0.did legal' step
              (keys_stand l fit past legal' (keeps.careful past (keeps.beginning past e good'))) was
              (so.1 (keeps.beginning past e good') fits_it)
          | inr new ↦
              let its = is_publish (st'.key s i).chan.0 s (key_of st' s i) e.act new in
              keeps.published past e so.0.did so.0.whole legal' step good' its.found its.is (its.serial ∙ its_serial)
              its.unpublished
        ]
          where
            parts : (fits (st'.key s i) serial ≡ true) × (in_key_set (st'.key s i) ≡ true)
            parts = and_parts (fits (st'.key s i) serial) (in_key_set (st'.key s i)) in_set'

            its_serial : (st'.key s i).serial ≡ serial
            its_serial = eqb-true (st'.key s i).serial serial
                (and_parts (st'.key s i).claimed ((st'.key s i).serial == serial) parts.0).1

-- ---- of a key that is in the key set all the time

-- the key's channel is the same, and nobody gave its number to a new one
pub record KeepsChannel (c : ChanId) (s i : ℕ) (did : List Event) (st : State) : Type 0 where
  pub channel : channel_of_key st s i ≡ c
  pub kept : is_reopened c.number.0 did ≡ false

-- a published key isn't published once more
not_once_more : (l : Limits) (before did past : List Event) (me : CallerNo) (s i serial : ℕ) (found : Stage)
    → past ≡ before ++ did → IsLegal l past
    → Answers (state_after past) me (Publish (record { 0 = s }) i found) → found.serial ≡ serial
    → found.published ≡ false → was_published ((state_after before).key s i) serial ≡ true → ⊥
not_once_more l before did past me s i serial found whole legal answers same unpublished then =
    elim (or_cases (nat_lt serial was.serial) (fits was serial && was.published) now) [
      | inl later ↦ absurd (omega (arith, ltb-true serial was.serial later, its_serial))
      | inr here ↦
          both_ways was.published (and_parts (fits was serial) was.published here).1
          (ap (λ x. x.published) (sym found_is) ∙ unpublished)
    ]
  where
    was : Stage
    was = (state_after past).key s i

    found_is : found ≡ (state_after past).key s i
    found_is = cc

    its_serial : was.serial ≡ serial
    its_serial = ap (λ x. x.serial) (sym found_is) ∙ same

    now : was_published was serial ≡ true
    now = subst (λ evs. was_published ((state_after evs).key s i) serial ≡ true) (sym whole)
        (permanent_stands l before did (subst (IsLegal l) whole legal) (key_published s i serial) then)

published_there : (k : Stage) (serial : ℕ) → is_in_key_set k serial ≡ true → was_published k serial ≡ true
published_there k serial in_set =
    let parts = and_parts (fits k serial) (in_key_set k) in_set in
    or_right (nat_lt serial k.serial) (fits k serial && k.published)
    (and_from (fits k serial) k.published parts.0 (and_parts k.published (not k.removed) parts.1).0)

pub keeps_channel : (l : Limits) (before later : List Event) (s i serial : ℕ) → IsFit l → IsLegal l (before ++ later)
    → IsCareful (before ++ later)
    → is_in_key_set ((state_after before).key s i) serial ≡ true
    → is_in_key_set ((state_after (before ++ later)).key s i) serial ≡ true
    → KeepsChannel (channel_of_key (state_after before) s i) s i later (state_after (before ++ later))
keeps_channel l before later s i serial fit legal careful first last =
    keeps_since l IsCareful before later s i serial (KeepsChannel c s i) fit
    (record {
      careful = λ events good. good;
      beginning = λ past e good. beginnings_are_careful past (past ++ e ∷ []) (e ∷ [], refl) good;
      start = λ _. record { channel = refl; kept = refl };
      published = λ past e did whole legal' step good found is same unpublished. absurd
          (not_once_more l before did past e.caller s i serial found whole legal'
          (subst (Answers (state_after past) e.caller) is step.answers) same unpublished
          (published_there ((state_after before).key s i) serial first));
      stays = λ past e did legal' step stand was earlier. record {
        channel = same_channel_step l past e fit legal' step stand s i was ∙ earlier.channel;
        kept = list_any-append (λ x. reopens c.number.0 x.act) did (e ∷ [])
            ∙ or_from (is_reopened c.number.0 did) (reopens c.number.0 e.act || false) earlier.kept
            (ap (λ b. b || false)
            (subst (λ (d : ChanId). reopens d.number.0 e.act ≡ false) earlier.channel
            (not_reopened l past e fit legal' step stand s i was.in_set)));
      };
    }) legal careful last
  where
    c : ChanId
    c = channel_of_key (state_after before) s i

-- ---- the laws

-- a published key that is in the key set at last isn't removed before
in_set_then : (l : Limits) (before later : List Event) (s i serial : ℕ) → IsLegal l (before ++ later)
    → was_published ((state_after before).key s i) serial ≡ true
    → is_in_key_set ((state_after (before ++ later)).key s i) serial ≡ true
    → is_in_key_set ((state_after before).key s i) serial ≡ true
in_set_then l before later s i serial legal published last =
    elim (or_cases (nat_lt serial was.serial) (fits was serial && was.published) published) [
      | inl above ↦ absurd (not_removed (or_left (nat_lt serial was.serial) (fits was serial && was.removed) above))
      | inr here ↦
          let parts = and_parts (fits was serial) was.published here in
          and_from (fits was serial) (in_key_set was) parts.0
          (and_from was.published (not was.removed) parts.1
          (ap not (false_from_ne_true was.removed (λ removed. not_removed
          (or_right (nat_lt serial was.serial) (fits was serial && was.removed)
          (and_from (fits was serial) was.removed parts.0 removed))))))
    ]
  where
    was : Stage
    was = (state_after before).key s i

    now : Stage
    now = (state_after (before ++ later)).key s i

    not_removed : was_removed was serial ≡ true → ⊥
    not_removed removed =
        let parts = and_parts (fits now serial) (in_key_set now) last in
        elim (or_cases (nat_lt serial now.serial) (fits now serial && now.removed)
        (permanent_stands l before later legal (key_removed s i serial) removed)) [
          | inl above ↦ absurd (omega (
            arith,
            ltb-true serial now.serial above,
            eqb-true now.serial serial
                (and_parts now.claimed (now.serial == serial) parts.0).1,
          ))
          | inr gone ↦ both_ways now.removed (and_parts (fits now serial) now.removed gone).1
              (not-true now.removed (and_parts now.published (not now.removed) parts.1).1)
        ]

pub keys_keep_their_channel : KeysKeepTheirChannel
keys_keep_their_channel l n s i found past later fit legal careful last =
    subst (λ (k : Stage). is_reopened k.chan.0 later ≡ false) now_is
    (keeps_channel l then later s.0 i found.serial fit legal' (subst IsCareful joined careful)
    (in_set_then l then later s.0 i found.serial legal' published last') last').kept
  where
    publish : Event
    publish = event_of n (Publish s i found)

    then : List Event
    then = past ++ publish ∷ []

    joined : past ++ publish ∷ later ≡ then ++ later
    joined = sym (append_assoc past (publish ∷ []) later)

    legal' : IsLegal l (then ++ later)
    legal' = subst (IsLegal l) joined legal

    last' : is_in_key_set ((state_after (then ++ later)).key s.0 i) found.serial ≡ true
    last' = subst (λ evs. is_in_key_set ((state_after evs).key s.0 i) found.serial ≡ true) joined last

    found_is : found ≡ (state_after past).key s.0 i
    found_is =
        let answers : Answers (state_after past) n (Publish s i found) =
        (legal_next l past publish later legal).answers in
        cc answers

    now_is : (state_after then).key s.0 i ≡ record found { published = true }
    now_is = ap (λ st. st.key s.0 i) (state_after-more past publish)
        ∙ (put_at-same (state_after past).key s.0 i _
        ∙ ap {A = Stage} (λ k. record k { published = true }) (sym found_is))

    claimed : ((state_after then).key s.0 i).claimed ≡ true
    claimed = by_claimed ((state_after then).key s.0 i).claimed refl
      where
        by_claimed : (b : Bool) → ((state_after then).key s.0 i).claimed ≡ b → b ≡ true
        by_claimed true is = refl
        by_claimed false is = absurd (cc
            (sym (ap (λ k. k.published) now_is) ∙ ap (λ k. k.published)
            ((legal-sound l then (legal_beginning l then later legal')).unclaimed_bare s.0 i is)))

    published : was_published ((state_after then).key s.0 i) found.serial ≡ true
    published =
        let now : Stage = (state_after then).key s.0 i in
        or_right (nat_lt found.serial now.serial) (fits now found.serial && now.published)
        (and_from (fits now found.serial) now.published
        (and_from now.claimed (now.serial == found.serial) claimed
        (eq-eqb now.serial found.serial (ap (λ k. k.serial) now_is)))
        (ap (λ k. k.published) now_is))

pub selections_keep_channels : SelectionsKeepChannels
selections_keep_channels l n s i before later fit keeps careful spared in_set =
    let there = set_fits (state_after before)
    (legal-sound l before (legal_beginning l before later keeps.legal)) s.0 i in_set in
    (keeps_channel l before later s.0 i ((state_after before).key s.0 i).serial fit keeps.legal careful there
    (key_set_stays l n s before later keeps (key_of (state_after before) s.0 i) spared there)).channel

-- ---- enrolled keys

-- the key of the index was published for the channel of its number, by what was done
abbrev IsPublishedFor : (s i serial : ℕ) → List Event → State → Type 0
IsPublishedFor s i serial did st = PublishedFor (st.key s i).chan (record { 0 = s }) i serial did

published_for : (l : Limits) (s i serial : ℕ) (events : List Event) → IsFit l → IsLegal l events → IsCareful events
    → is_in_key_set ((state_after events).key s i) serial ≡ true
    → IsPublishedFor s i serial events (state_after events)
published_for l s i serial events fit legal careful in_set =
    keeps_since l IsCareful [] events s i serial (IsPublishedFor s i serial) fit
    (record {
      careful = λ _ good. good;
      beginning = λ past e good. beginnings_are_careful past (past ++ e ∷ []) (e ∷ [], refl) good;
      start = λ none. absurd (cc none);
      published = λ past e did whole legal' step good found is same unpublished.
          let answers : Answers (state_after past) e.caller (Publish (record { 0 = s }) i found)
          = subst (Answers (state_after past) e.caller) is step.answers in
          let found_is : found ≡ (state_after past).key s i = cc answers in
          record {
            by = e.caller;
            found = found;
            past = did;
            later = [];
            parts = ap (λ act. did ++ event_of e.caller act ∷ []) is;
            of_serial = same;
            of_channel = ap (λ (k : Stage). k.chan) found_is
                ∙ sym (ap (λ act. ((effect (state_after past) e.caller act).key s i).chan) is
                ∙ ap (λ (k : Stage). k.chan) (put_at-same (state_after past).key s i
                (record ((state_after past).key s i) { published = true })));
            kept = refl;
          };
      stays = λ past e did legal' step stand was earlier.
          let st = state_after past in
          record {
            by = earlier.by;
            found = earlier.found;
            past = earlier.past;
            later = earlier.later ++ e ∷ [];
            parts = ap (λ events'. events' ++ e ∷ []) earlier.parts
                ∙ append_assoc earlier.past (event_of earlier.by (Publish (record { 0 = s }) i earlier.found) ∷ earlier.later)
                (e ∷ []);
            of_serial = earlier.of_serial;
            of_channel = earlier.of_channel ∙ sym was.channel;
            kept = subst (λ (c : ChanNo). is_reopened c.0 (earlier.later ++ e ∷ []) ≡ false) (sym was.channel)
                (list_any-append (λ x. reopens (st.key s i).chan.0 x.act) earlier.later (e ∷ [])
                ∙ or_from (is_reopened (st.key s i).chan.0 earlier.later)
                (reopens (st.key s i).chan.0 e.act || false) earlier.kept
                (ap (λ b. b || false) (not_reopened l past e fit legal' step stand s i was.in_set)));
          };
    }) legal careful in_set

pub enrolled_keys_are_of_the_channel : EnrolledKeysAreOfTheChannel
enrolled_keys_are_of_the_channel l c s k events fit legal careful enrolled in_set =
    let at = (state_after events).key s.0 k.index in
    let its = enrolled_keys_are_claimed l c s k events fit legal enrolled in
    let same : at.serial ≡ k.serial
    = eqb-true at.serial k.serial
    (and_parts at.claimed (at.serial == k.serial) (and_parts (fits at k.serial) (in_key_set at) in_set).0).1 in
    subst (λ (d : ChanNo). PublishedFor d s k.index k.serial events) (its.1 same)
    (published_for l s.0 k.index k.serial events fit legal careful in_set)
