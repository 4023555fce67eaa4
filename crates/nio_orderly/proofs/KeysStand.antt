-- What stands of the keys of the key set in a legal and careful history: each is the one that is enrolled for its
-- channel, its channel is non-blocking, and its index is below the keys' high-water mark.
use Rattle.std.proofs.Common.{◌≡◌, ℕ, ◌==◌, Bool, true, false, not, ◌&&◌, ◌||◌, inl, inr, Some, List, [], ◌∷◌, ◌++◌}
use Rattle.std.proofs.Common.{refl, ap, sym, ◌∙◌, subst, eqb-true, eq-eqb}
use Rattle.std.specs.Prelude.{nat_lt}
use Rattle.std.proofs.lemmas.Bool.{and_parts, and_from, ltb-true, lt-ltb, false_from_ne_true}
use Rattle.nio_base.specs.Limits.{IsFit}
use Rattle.nio_base.specs.declared.limits.Limits.{Limits}
use Rattle.nio_base.specs.declared.numbers.CallerNo.{CallerNo}
use Rattle.nio_base.specs.declared.numbers.ChanNo.{ChanNo}
use Rattle.nio_base.specs.declared.numbers.KeyId.{KeyId}
use Rattle.nio_history.proofs.ChannelChanges.{channels_keep}
use Rattle.nio_history.proofs.Holds.{clear_is_true}
use Rattle.nio_history.proofs.Lasts.{keys_high_lasts}
use Rattle.nio_history.proofs.Legal.{legal_induction}
use Rattle.nio_history.proofs.OneMore.{state_after-more}
use Rattle.nio_history.proofs.Soundness.{legal-sound, both_ways, beyond-claimed}
use Rattle.nio_history.proofs.Within.{legal-within}
use Rattle.nio_history.specs.Acts.{effect}
use Rattle.nio_history.specs.Answers.{Answers}
use Rattle.nio_history.specs.Conditions.{Condition, holds}
use Rattle.nio_history.specs.Histories.{state_after, mine, IsStep, IsLegal}
use Rattle.nio_history.specs.OwnEvents.{OwnClaim, enrols_key, is_clear, reopens, own_claim}
use Rattle.nio_history.specs.Sets.{in_key_set, is_in_key_set}
use Rattle.nio_history.specs.Sound.{IsSound}
use Rattle.nio_history.specs.State.{State}
use Rattle.nio_history.specs.declared.act.Act.{Act}
use Rattle.nio_history.specs.declared.act.Act.TheVariants.{Publish, Enrol, SetMode, Reopen}
use Rattle.nio_history.specs.declared.event.Event.{Event}
use Rattle.nio_history.specs.declared.found.Chan.{Chan}
use Rattle.nio_history.specs.declared.found.Stage.{Stage}
use Rattle.nio_orderly.proofs.ActLists.{prepared_left}
use Rattle.nio_orderly.proofs.Careful.{beginnings_are_careful}
use Rattle.nio_orderly.proofs.KeySet.{WasThere, came}
use Rattle.nio_orderly.proofs.Published.{IsPublish, is_publish, enrolled_other, AtPublish, at_publish}
use Rattle.nio_orderly.proofs.Standing.{claimed_made, below_left}
use Rattle.nio_orderly.specs.Careful.{is_prepared, IsCareful}
use Rattle.nio_orderly.specs.Owed.{publishes_key, key_of, channel_of_key}
use Rattle.nio_steps.specs.Names.{channel_of}

pub record KeysStand (st : State) : Type 0 where
  pub enrolled : (s i : ℕ) → in_key_set (st.key s i) ≡ true → st.enrolled (st.key s i).chan.0 s ≡ Some (key_of st s i)
  pub unblocked : (s i : ℕ) → in_key_set (st.key s i) ≡ true → (st.chan (st.key s i).chan.0).blocking ≡ false
  pub below : (s i : ℕ) → in_key_set (st.key s i) ≡ true → nat_lt i (st.keys_high s) ≡ true

-- ---- a key of the key set is claimed

pub set_claimed : (st : State) → IsSound st → (s i : ℕ) → in_key_set (st.key s i) ≡ true → (st.key s i).claimed ≡ true
set_claimed st sound s i in_set =
    let published = (and_parts (st.key s i).published (not (st.key s i).removed) in_set).0 in
    beyond-claimed st sound s i (ap (λ b. (b || (st.key s i).cancelled) || (st.key s i).removed) published)

pub set_fits : (st : State) → IsSound st → (s i : ℕ) → in_key_set (st.key s i) ≡ true
    → is_in_key_set (st.key s i) (st.key s i).serial ≡ true
set_fits st sound s i in_set =
    let k : Stage = st.key s i in
    and_from (k.claimed && (k.serial == k.serial)) (in_key_set k)
    (and_from k.claimed (k.serial == k.serial) (set_claimed st sound s i in_set) (eq-eqb k.serial k.serial refl))
    in_set

-- a channel that a holder knows to be clear in a selector has no key of the key set there
not_clear : (l : Limits) (past : List Event) (me : CallerNo) (c : ChanNo) (s i : ℕ) → IsFit l → IsLegal l past
    → KeysStand (state_after past)
    → holds (state_after past) me c ≡ true → is_clear c.0 s (mine me past) ≡ true
    → in_key_set ((state_after past).key s i) ≡ true → ((state_after past).key s i).chan.0 ≡ c.0 → ⊥
not_clear l past me c s i fit legal stand held clear in_set of_channel =
    both_ways (is_in_key_set (st.key s i) (st.key s i).serial) (set_fits st (legal-sound l past legal) s i in_set)
    (clear_is_true l me c past fit legal held (record { 0 = s }) clear (key_of st s i)
    (subst (λ (m : ℕ). st.enrolled m s ≡ Some (key_of st s i)) of_channel (stand.enrolled s i in_set)))
  where
    st : State
    st = state_after past

-- ---- what a publish makes of them

-- a publish of key k, a key of channel c: what stands before it
pub record Published (past : List Event) (me : CallerNo) (c s : ℕ) (k : KeyId) : Type 0 where
  pub enrolled : (state_after past).enrolled c s ≡ Some k
  pub unblocked : ((state_after past).chan c).blocking ≡ false
  pub below : nat_lt k.index ((state_after past).keys_high s) ≡ true
  pub claim : OwnClaim
  pub its : own_claim s k.index (mine me past) ≡ Some claim
  pub prepared : is_prepared s k.index (mine me past) ≡ true
  pub unremoved : ((state_after past).key s k.index).removed ≡ false

-- what is prepared is below the high-water mark
pub prepared_below : (l : Limits) (n : CallerNo) (events : List Event) (s i : ℕ) → IsLegal l events
    → is_prepared s i (mine n events) ≡ true
    → nat_lt i ((state_after events).keys_high s) ≡ true
prepared_below l n events s i legal prepared =
    below_left l n events s i legal (prepared_left s i (mine n events) prepared)

pub published : (l : Limits) (past : List Event) (e : Event) → IsFit l → IsLegal l past → IsStep l past e
    → IsCareful (past ++ e ∷ [])
    → (c s : ℕ) (k : KeyId) → publishes_key c s k e.act ≡ true → Published past e.caller c s k
published l past e fit legal step careful c s k told = record {
  enrolled = subst (λ (m : ℕ). st.enrolled m s ≡ Some k) (sym channel)
      (at.enrolled ∙ ap (λ (q : ℕ). Some (key k.index q)) (sym serial));
  unblocked = subst (λ (m : ℕ). (st.chan m).blocking ≡ false) (sym channel) at.unblocked;
  below = prepared_below l e.caller past s k.index legal at.prepared;
  claim = at.claim;
  its = at.its;
  prepared = at.prepared;
  unremoved = ap (λ x. x.removed) (sym found_is) ∙ publish.unremoved;
}
  where
    st : State
    st = state_after past

    key : ℕ → ℕ → KeyId
    key j q = record { index = j; serial = q }

    publish : IsPublish c s k e.act
    publish = is_publish c s k e.act told

    at : AtPublish past e.caller s k.index
    at = at_publish l past e fit legal step careful s k.index publish.found publish.is

    found_is : publish.found ≡ st.key s k.index
    found_is =
        let answers : Answers st e.caller (Publish (record { 0 = s }) k.index publish.found) = subst
        (Answers st e.caller) publish.is step.answers in
        cc answers

    channel : c ≡ at.claim.channel.0
    channel = sym publish.channel ∙ (ap (λ x. x.chan.0) found_is ∙ ap (λ (x : ChanNo). x.0) at.of_claim.channel)

    serial : k.serial ≡ at.claim.serial
    serial = sym publish.serial ∙ (ap (λ x. x.serial) found_is ∙ at.of_claim.serial)

-- a publish changes neither the enrolled keys, nor the channels, nor the high-water marks
publish_spares : (st : State) (me : CallerNo) (c s : ℕ) (k : KeyId) (act : Act) → IsPublish c s k act
    → (P : State → Type 0) → ((found : Stage) → P (effect st me (Publish (record { 0 = s }) k.index found)))
    → P (effect st me act)
publish_spares st me c s k act publish P here = subst (λ a. P (effect st me a)) (sym publish.is) (here publish.found)

-- ---- one step

-- the enrolled key of a channel with a key of the key set isn't changed
enrolled_step : (l : Limits) (past : List Event) (e : Event) → IsFit l → IsLegal l past → IsStep l past e
    → KeysStand (state_after past)
    → (s i : ℕ) → in_key_set ((state_after past).key s i) ≡ true
    → enrols_key ((state_after past).key s i).chan.0 s e.act ≡ false
enrolled_step l past e fit legal step stand s i in_set = by_act e.act step.condition
  where
    st : State
    st = state_after past

    by_act : (act : Act) → Condition l (mine e.caller past) st e.caller act
        → enrols_key (st.key s i).chan.0 s act ≡ false
    by_act (Enrol c' s' j q found) may = by_same ((c'.0 == (st.key s i).chan.0) && (s'.0 == s)) refl
      where
        by_same : (b : Bool) → ((c'.0 == (st.key s i).chan.0) && (s'.0 == s)) ≡ b → b ≡ false
        by_same true same =
            let both = and_parts (c'.0 == (st.key s i).chan.0) (s'.0 == s) same in
            let same_selector : s'.0 ≡ s = eqb-true s'.0 s both.1 in
            absurd (not_clear l past e.caller c' s i fit legal stand may.3
            (subst (λ (m : ℕ). is_clear c'.0 m (mine e.caller past) ≡ true) same_selector may.4) in_set
            (sym (eqb-true c'.0 (st.key s i).chan.0 both.0)))
        by_same false other = refl
    by_act act may = refl

-- its number isn't given to a new channel
pub not_reopened : (l : Limits) (past : List Event) (e : Event) → IsFit l → IsLegal l past → IsStep l past e
    → KeysStand (state_after past)
    → (s i : ℕ) → in_key_set ((state_after past).key s i) ≡ true
    → reopens ((state_after past).key s i).chan.0 e.act ≡ false
not_reopened l past e fit legal step stand s i in_set = by_act e.act step.condition
  where
    st : State
    st = state_after past

    by_act : (act : Act) → Condition l (mine e.caller past) st e.caller act → reopens (st.key s i).chan.0 act ≡ false
    by_act (Reopen c from false) may =
        false_from_ne_true (c.0 == (st.key s i).chan.0) (λ same.
        not_clear l past e.caller c s i fit legal stand may.1
        (may.5 s ((legal-within l past legal).keys s i (set_claimed st (legal-sound l past legal) s i in_set)).0) in_set
        (sym (eqb-true c.0 (st.key s i).chan.0 same)))
    by_act (Reopen c from true) may = refl
    by_act act may = refl

-- Its channel stays the one that its number has, and isn't set to blocking mode.
record IsSpared (was now : Chan) : Type 0 where
  serial : now.serial ≡ was.serial
  blocking : was.blocking ≡ false → now.blocking ≡ false

spared_step : (l : Limits) (past : List Event) (e : Event) → IsFit l → IsLegal l past → IsStep l past e
    → KeysStand (state_after past)
    → (s i : ℕ) → in_key_set ((state_after past).key s i) ≡ true
    → IsSpared ((state_after past).chan ((state_after past).key s i).chan.0)
    ((effect (state_after past) e.caller e.act).chan ((state_after past).key s i).chan.0)
spared_step l past e fit legal step stand s i in_set =
    channels_keep (λ act. Condition l (mine e.caller past) st e.caller act × (reopens c act ≡ false)) st e.caller
    (λ m x. m ≡ c → IsSpared (st.chan m) x)
    (record {
      made = λ k kind may unmade old same. absurd
          (both_ways (st.chan k.0).made (subst (λ (m : ℕ). (st.chan m).made ≡ true) (sym same)
          (claimed_made l past legal s i claimed)) unmade);
      mode = λ k blocking found may old same. record {
        serial = refl;
        blocking = λ _. by_mode blocking k found may.0 same;
      };
      closed = λ k from found may closes_it old same. record {
        serial = refl;
        blocking = λ unblocked. by_from from.blocking (st.chan k.0).blocking unblocked
            (and_parts ((st.chan k.0).serial == from.serial) ((st.chan k.0).blocking || not from.blocking) closes_it).1;
      };
      reopened = λ k may old same. absurd
          (both_ways (k.0 == c) (eq-eqb k.0 c same) may.1);
    })
    e.act (step.condition, not_reopened l past e fit legal step stand s i in_set) step.answers c
    (λ _. record { serial = refl; blocking = λ unblocked. unblocked }) refl
  where
    st : State
    st = state_after past

    c : ℕ
    c = (st.key s i).chan.0

    claimed : (st.key s i).claimed ≡ true
    claimed = set_claimed st (legal-sound l past legal) s i in_set

    by_mode : (b : Bool) (k : ChanNo) (found : Chan)
        → Condition l (mine e.caller past) st e.caller (SetMode k b found) → k.0 ≡ c → b ≡ false
    by_mode true k found may same = absurd
        (not_clear l past e.caller k s i fit legal stand may.1
        (may.2 refl s ((legal-within l past legal).keys s i claimed).0) in_set (sym same))
    by_mode false k found may same = refl

    by_from : (from was : Bool) → was ≡ false → (was || not from) ≡ true → from ≡ false
    by_from true true unblocked closes_it = absurd (cc unblocked)
    by_from true false unblocked closes_it = absurd (cc closes_it)
    by_from false was unblocked closes_it = refl

-- the channel of a key that stays in the key set is the one that its number had
pub same_channel_step : (l : Limits) (past : List Event) (e : Event) → IsFit l → IsLegal l past → IsStep l past e
    → KeysStand (state_after past)
    → (s i : ℕ) → WasThere ((state_after past).key s i) ((effect (state_after past) e.caller e.act).key s i)
    → channel_of_key (effect (state_after past) e.caller e.act) s i ≡ channel_of_key (state_after past) s i
same_channel_step l past e fit legal step stand s i was =
    ap (λ (c : ChanNo). channel_of c (st'.chan c.0).serial) was.channel
    ∙ ap (channel_of (st.key s i).chan) (spared_step l past e fit legal step stand s i was.in_set).serial
  where
    st : State
    st = state_after past

    st' : State
    st' = effect st e.caller e.act

keys_stand_step : (l : Limits) (past : List Event) (e : Event) → IsFit l → IsLegal l past → IsStep l past e
    → IsCareful (past ++ e ∷ []) → KeysStand (state_after past)
    → KeysStand (effect (state_after past) e.caller e.act)
keys_stand_step l past e fit legal step careful stand = record {
  enrolled = λ s i in_set. elim (came st me e.act step.answers s i in_set) [
    | inl was ↦
        enrolled_other st me e.act (st'.key s i).chan.0 s (Some (key_of st' s i))
        (subst (λ (c : ChanNo). enrols_key c.0 s e.act ≡ false) (sym was.channel)
        (enrolled_step l past e fit legal step stand s i was.in_set))
        (subst (λ (c : ChanNo). st.enrolled c.0 s ≡ Some (key_of st' s i)) (sym was.channel)
        (stand.enrolled s i was.in_set ∙ ap (λ (q : ℕ). Some (key i q)) (sym was.serial)))
    | inr new ↦
        publish_spares st me (st'.key s i).chan.0 s (key_of st' s i) e.act
        (is_publish (st'.key s i).chan.0 s (key_of st' s i) e.act new)
        (λ x. x.enrolled (st'.key s i).chan.0 s ≡ Some (key_of st' s i)) (λ found. (made s i new).enrolled)
  ];
  unblocked = λ s i in_set. elim (came st me e.act step.answers s i in_set) [
    | inl was ↦ subst (λ (c : ChanNo). (st'.chan c.0).blocking ≡ false) (sym was.channel)
        ((spared_step l past e fit legal step stand s i was.in_set).blocking (stand.unblocked s i was.in_set))
    | inr new ↦
        publish_spares st me (st'.key s i).chan.0 s (key_of st' s i) e.act
        (is_publish (st'.key s i).chan.0 s (key_of st' s i) e.act new)
        (λ x. (x.chan (st'.key s i).chan.0).blocking ≡ false) (λ found. (made s i new).unblocked)
  ];
  below = λ s i in_set. elim (came st me e.act step.answers s i in_set) [
    | inl was ↦ still s i (stand.below s i was.in_set)
    | inr new ↦ still s i (made s i new).below
  ];
}
  where
    me : CallerNo
    me = e.caller

    st : State
    st = state_after past

    st' : State
    st' = effect st e.caller e.act

    key : ℕ → ℕ → KeyId
    key j q = record { index = j; serial = q }

    made : (s i : ℕ) → publishes_key (st'.key s i).chan.0 s (key_of st' s i) e.act ≡ true
        → Published past me (st'.key s i).chan.0 s (key_of st' s i)
    made s i new = published l past e fit legal step careful (st'.key s i).chan.0 s (key_of st' s i) new

    still : (s i : ℕ) → nat_lt i (st.keys_high s) ≡ true → nat_lt i (st'.keys_high s) ≡ true
    still s i below = lt-ltb i (st'.keys_high s) (keys_high_lasts st me e.act s i (ltb-true i (st.keys_high s) below))

-- in every legal and careful history the keys stand so
pub keys_stand : (l : Limits) → IsFit l → (events : List Event) → IsLegal l events → IsCareful events
    → KeysStand (state_after events)
keys_stand l fit = legal_induction l (λ evs. IsCareful evs → KeysStand (state_after evs))
    (λ careful. record {
      enrolled = λ s i in_set. absurd cc;
      unblocked = λ s i in_set. absurd cc;
      below = λ s i in_set. absurd cc;
    })
    (λ past e legal step before careful. subst KeysStand (sym (state_after-more past e))
    (keys_stand_step l past e fit legal step careful
    (before (beginnings_are_careful past (past ++ e ∷ []) (e ∷ [], refl) careful))))
