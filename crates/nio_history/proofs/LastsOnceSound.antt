-- What lasts from a sound state: how far a key came, that a channel was opened and closed, the kind of a number's
-- channels, and who closes a selector. With what lasts from every state, all that stands in `PermanentFact`.
use Rattle.std.proofs.Common.{◌≡◌, ℕ, ◌==◌, ◌<◌, ◌≤◌, Bool, true, false, not, ◌&&◌, ◌||◌, inl, inr, suc, List, ◌++◌}
use Rattle.std.proofs.Common.{refl, ap, sym, ◌∙◌, subst, eqb-true, arith}
use Rattle.std.specs.Prelude.{nat_lt}
use Rattle.std.proofs.lemmas.Bool.{and_parts, and_from, le-ltb, lt-ltb, ltb-false, ltb-true, not-true, not_from_false}
use Rattle.std.proofs.lemmas.Bool.{or_cases, or_right}
use Rattle.nio_base.specs.Kind.{is_same_kind}
use Rattle.nio_base.specs.declared.kind.Kind.{Kind}
use Rattle.nio_base.specs.declared.limits.Limits.{Limits}
use Rattle.nio_base.specs.declared.numbers.CallerNo.{CallerNo}
use Rattle.nio_history.proofs.ChannelChanges.{KeepsChannels, channels_keep}
use Rattle.nio_history.proofs.KeyChanges.{KeepsStages, stages_keep}
use Rattle.nio_history.proofs.Lasts.{drawn_lasts, selector_lasts, shut_lasts, entered_lasts, made_lasts, claimed_lasts}
use Rattle.nio_history.proofs.Lasts.{keys_high_lasts, channels_high_lasts}
use Rattle.nio_history.proofs.LastsAlone.{take_keeps}
use Rattle.nio_history.proofs.Legal.{legal_from}
use Rattle.nio_history.proofs.OneMore.{state_after-more}
use Rattle.nio_history.proofs.Put.{put_keeps}
use Rattle.nio_history.proofs.Soundness.{legal-sound, held_some, both_ways}
use Rattle.nio_history.specs.Acts.{effect, new_key, new_channel}
use Rattle.nio_history.specs.Answers.{Answers}
use Rattle.nio_history.specs.Conditions.{Condition, is_held_by}
use Rattle.nio_history.specs.Histories.{state_after, mine, IsStep, IsLegal}
use Rattle.nio_history.specs.Permanent.{PermanentFact, caller_drawn, selector_made, selector_shut, selector_closed_by}
use Rattle.nio_history.specs.Permanent.{selector_entered, channel_made, channel_of_kind, channel_opened, channel_closed}
use Rattle.nio_history.specs.Permanent.{index_claimed, key_claimed}
use Rattle.nio_history.specs.Permanent.{key_published, key_cancelled, key_removed, below_keys_high, below_channels_high}
use Rattle.nio_history.specs.Permanent.{list_had_by, stands}
use Rattle.nio_history.specs.Sets.{fits, was_claimed, was_published, was_cancelled, was_removed, fits_channel}
use Rattle.nio_history.specs.Sets.{was_opened, was_closed}
use Rattle.nio_history.specs.Sound.{IsSound}
use Rattle.nio_history.specs.State.{State, unclaimed}
use Rattle.nio_history.specs.declared.act.Act.{Act}
use Rattle.nio_history.specs.declared.act.Act.TheVariants.{ShutBit, TakeList}
use Rattle.nio_history.specs.declared.event.Event.{Event}
use Rattle.nio_history.specs.declared.found.Chan.{Chan}
use Rattle.nio_history.specs.declared.found.Stage.{Stage}

-- ---- keys, by their serials

-- the key of an index with this serial has had the bit: the index has a later serial, or this one and the bit
abbrev pub is_reached : (Stage → Bool) → Stage → ℕ → Bool
is_reached bit k serial = nat_lt serial k.serial || (fits k serial && bit k)

-- an index that isn't claimed had no key
pub unclaimed_reached : (bit : Stage → Bool) (k : Stage) (serial : ℕ) → k ≡ unclaimed → is_reached bit k serial ≡ true → ⊥
unclaimed_reached bit k serial is_unclaimed reached =
    elim (or_cases (nat_lt serial 0) false (sym (ap (λ x. is_reached bit x serial) is_unclaimed) ∙ reached)) [
      | inl below ↦ absurd (omega (arith, ltb-true serial 0 below))
      | inr now ↦ absurd (cc now)
    ]

-- a key that was reached in a stage is so in one with the same serial that has the bit too
reached_still : (bit : Stage → Bool) (k k' : Stage) (serial : ℕ) → nat_lt serial k'.serial ≡ nat_lt serial k.serial
    → fits k' serial ≡ fits k serial
    → (bit k ≡ true → bit k' ≡ true) → is_reached bit k serial ≡ true → is_reached bit k' serial ≡ true
reached_still bit k k' serial lower same still reached =
    elim (or_cases (nat_lt serial k.serial) (fits k serial && bit k) reached) [
      | inl below ↦ ap (λ b. b || (fits k' serial && bit k')) (lower ∙ below)
      | inr now ↦
          let both = and_parts (fits k serial) (bit k) now in
          or_right (nat_lt serial k'.serial) (fits k' serial && bit k')
          (and_from (fits k' serial) (bit k') (same ∙ both.0) (still both.1))
    ]

-- the next serial is above that of each key that was reached
reached_before : (bit : Stage → Bool) (k : Stage) (serial : ℕ) → is_reached bit k serial ≡ true
    → nat_lt serial (suc k.serial) ≡ true
reached_before bit k serial reached =
    elim (or_cases (nat_lt serial k.serial) (fits k serial && bit k) reached) [
      | inl below ↦
          let lower : serial < k.serial = ltb-true serial k.serial below in
          lt-ltb serial (suc k.serial) (omega arith)
      | inr now ↦
          let same : k.serial ≡ serial = eqb-true k.serial serial
          (and_parts k.claimed (k.serial == serial) (and_parts (fits k serial) (bit k) now).0).1 in
          lt-ltb serial (suc k.serial) (omega arith)
    ]

-- a bit of a key that a step sets stays set
reached_keeps : (bit : Stage → Bool) → ((k : Stage) → bit k ≡ true → bit (record k { published = true }) ≡ true)
    → ((k : Stage) → bit k ≡ true → bit (record k { cancelled = true }) ≡ true)
    → ((k : Stage) → bit k ≡ true → bit (record k { removed = true }) ≡ true)
    → (l : Limits) (own : List Act) (st : State) (me : CallerNo) (serial : ℕ) → IsSound st
    → KeepsStages (Condition l own st me) st (λ _ _ k. is_reached bit k serial ≡ true)
reached_keeps bit published cancelled removed l own st me serial sound = record {
  claimed = λ s i c unclaimed_yet old. absurd
      (unclaimed_reached bit (st.key s.0 i) serial (sound.unclaimed_bare s.0 i unclaimed_yet) old);
  published = λ s i found may old. reached_still bit (st.key s.0 i) (record (st.key s.0 i) { published = true }) serial
      refl refl (published (st.key s.0 i)) old;
  cancelled = λ s i found may old. reached_still bit (st.key s.0 i) (record (st.key s.0 i) { cancelled = true }) serial
      refl refl (cancelled (st.key s.0 i)) old;
  removed = λ s i found may old. reached_still bit (st.key s.0 i) (record (st.key s.0 i) { removed = true }) serial refl
      refl (removed (st.key s.0 i)) old;
  again = λ s i c from may unpinned old.
      ap (λ b. b
      || (fits (new_key c (suc (st.key s.0 i).serial)) serial && bit (new_key c (suc (st.key s.0 i).serial))))
      (reached_before bit (st.key s.0 i) serial old);
}

pub not_below_next : (a q : ℕ) → not (nat_lt a q) ≡ true → not (nat_lt (suc a) q) ≡ true
not_below_next a q e =
    let above : q ≤ a = ltb-false a q (not-true (nat_lt a q) e) in
    not_from_false (nat_lt (suc a) q) (le-ltb (suc a) q (omega arith))

-- an index that was claimed for a key was so ever after
was_claimed_keeps : (l : Limits) (own : List Act) (st : State) (me : CallerNo) (serial : ℕ)
    → KeepsStages (Condition l own st me) st (λ _ _ k. was_claimed k serial ≡ true)
was_claimed_keeps l own st me serial = record {
  claimed = λ s i c unclaimed_yet old.
      absurd (both_ways (st.key s.0 i).claimed
      (and_parts (st.key s.0 i).claimed (not (nat_lt (st.key s.0 i).serial serial)) old).0 unclaimed_yet);
  published = λ s i found may old. old;
  cancelled = λ s i found may old. old;
  removed = λ s i found may old. old;
  again = λ s i c from may unpinned old.
      not_below_next (st.key s.0 i).serial serial
      (and_parts (st.key s.0 i).claimed (not (nat_lt (st.key s.0 i).serial serial)) old).1;
}

-- ---- channels and selectors

-- a channel that was opened was so ever after
was_opened_keeps : (l : Limits) (own : List Act) (st : State) (me : CallerNo) (serial : ℕ)
    → KeepsChannels (Condition l own st me) st (λ _ x. was_opened x serial ≡ true)
was_opened_keeps l own st me serial = record {
  made = λ c kind _ unmade old.
      absurd (both_ways (st.chan c.0).made
      (and_parts (st.chan c.0).made (not (nat_lt (st.chan c.0).serial serial)) old).0 unmade);
  mode = λ c blocking found _ old. old;
  closed = λ c from found _ _ old. old;
  reopened = λ c _ old.
      not_below_next (st.chan c.0).serial serial
      (and_parts (st.chan c.0).made (not (nat_lt (st.chan c.0).serial serial)) old).1;
}

-- a channel that was closed is so ever after: a number's next channel has another serial
was_closed_keeps : (l : Limits) (own : List Act) (st : State) (me : CallerNo) (serial : ℕ) → IsSound st
    → KeepsChannels (Condition l own st me) st (λ _ x. was_closed x serial ≡ true)
was_closed_keeps l own st me serial sound = record {
  made = λ c kind _ unmade old.
      elim (or_cases (nat_lt serial 0) false
      (sym (ap (λ x. was_closed x serial) (sound.unmade_bare c.0 unmade)) ∙ old)) [
        | inl below ↦ absurd (omega (arith, ltb-true serial 0 below))
        | inr now ↦ absurd (cc now)
      ];
  mode = λ c blocking found _ old. old;
  closed = λ c from found _ _ old.
      let x : Chan = st.chan c.0 in
      elim (or_cases (nat_lt serial x.serial) (fits_channel x serial && x.closed) old) [
        | inl below ↦ ap (λ b. b || (fits_channel x serial && true)) below
        | inr now ↦ or_right (nat_lt serial x.serial) (fits_channel x serial && true)
            (and_from (fits_channel x serial) true (and_parts (fits_channel x serial) x.closed now).0 refl)
      ];
  reopened = λ c _ old.
      let x : Chan = st.chan c.0 in
      ap (λ b. b || (fits_channel (new_channel x.kind (suc x.serial)) serial && false)) (before_next x old);
}
  where
    before_next : (x : Chan) → was_closed x serial ≡ true → nat_lt serial (suc x.serial) ≡ true
    before_next x old =
        elim (or_cases (nat_lt serial x.serial) (fits_channel x serial && x.closed) old) [
          | inl below ↦
              let lower : serial < x.serial = ltb-true serial x.serial below in
              lt-ltb serial (suc x.serial) (omega arith)
          | inr now ↦
              let same : x.serial ≡ serial = eqb-true x.serial serial
              (and_parts x.made (x.serial == serial) (and_parts (fits_channel x serial) x.closed now).0).1 in
              lt-ltb serial (suc x.serial) (omega arith)
        ]

-- the channels of a number are of one kind
kind_keeps : (l : Limits) (own : List Act) (st : State) (me : CallerNo) (kind : Kind)
    → KeepsChannels (Condition l own st me) st (λ _ x. (x.made && is_same_kind x.kind kind) ≡ true)
kind_keeps l own st me kind = record {
  made = λ c new _ unmade old.
      absurd (both_ways (st.chan c.0).made
      (and_parts (st.chan c.0).made (is_same_kind (st.chan c.0).kind kind) old).0 unmade);
  mode = λ c blocking found _ old. old;
  closed = λ c from found _ _ old. old;
  reopened = λ c _ old. (and_parts (st.chan c.0).made (is_same_kind (st.chan c.0).kind kind) old).1;
}

closer_lasts : (st : State) (me : CallerNo) (act : Act) → Answers st me act → IsSound st → (s : ℕ) (n : CallerNo)
    → is_held_by n (st.closer s) ≡ true → is_held_by n ((effect st me act).closer s) ≡ true
closer_lasts st me (ShutBit k true) answers sound s n =
    put_keeps (λ _ o. is_held_by n o ≡ true) st.closer k.0 _ (λ e. e) s
closer_lasts st me (ShutBit k false) answers sound s n =
    put_keeps (λ _ o. is_held_by n o ≡ true) st.closer k.0 _
    (λ e. absurd (not_shut (sound.closer_shut k.0 (held_some n (st.closer k.0) e)))) s
  where
    not_shut : (st.gate k.0).shut ≡ true → ⊥
    not_shut is_shut =
        let open_still : (st.gate k.0).shut ≡ false = cc in
        both_ways (st.gate k.0).shut is_shut open_still
closer_lasts st me act answers sound s n = λ h. h

pub lister_lasts : (st : State) (me : CallerNo) (act : Act) → Answers st me act → (s : ℕ) (n : CallerNo)
    → is_held_by n (st.lister s) ≡ true → is_held_by n ((effect st me act).lister s) ≡ true
lister_lasts st me (TakeList k found) answers s n = take_keeps st.lister me n k.0 s found (cc)
lister_lasts st me act answers s n = λ h. h

-- no step ends what is permanent
lasts : (l : Limits) (own : List Act) (st : State) (me : CallerNo) (act : Act) → Condition l own st me act
    → Answers st me act → IsSound st
    → (f : PermanentFact) → stands f st ≡ true → stands f (effect st me act) ≡ true
lasts l own st me act may answers sound (caller_drawn n) h = drawn_lasts st me act n h
lasts l own st me act may answers sound (selector_made s) h = selector_lasts st me act s h
lasts l own st me act may answers sound (selector_shut s) h = shut_lasts st me act s h
lasts l own st me act may answers sound (selector_closed_by s n) h = closer_lasts st me act answers sound s.0 n h
lasts l own st me act may answers sound (selector_entered s) h = entered_lasts st me act s h
lasts l own st me act may answers sound (channel_made c) h = made_lasts st me act c h
lasts l own st me act may answers sound (channel_of_kind c kind) h =
    channels_keep (Condition l own st me) st me (λ _ x. (x.made && is_same_kind x.kind kind) ≡ true)
    (kind_keeps l own st me kind) act may answers c h
lasts l own st me act may answers sound (channel_opened c serial) h =
    channels_keep (Condition l own st me) st me (λ _ x. was_opened x serial ≡ true)
    (was_opened_keeps l own st me serial) act may answers c h
lasts l own st me act may answers sound (channel_closed c serial) h =
    channels_keep (Condition l own st me) st me (λ _ x. was_closed x serial ≡ true)
    (was_closed_keeps l own st me serial sound) act may answers c h
lasts l own st me act may answers sound (index_claimed s i) h = claimed_lasts st me act s i h
lasts l own st me act may answers sound (key_claimed s i serial) h =
    stages_keep (Condition l own st me) st me (λ _ _ k. was_claimed k serial ≡ true)
    (was_claimed_keeps l own st me serial) act may answers s i h
lasts l own st me act may answers sound (key_published s i serial) h =
    stages_keep (Condition l own st me) st me (λ _ _ k. was_published k serial ≡ true)
    (reached_keeps (λ k. k.published) (λ k e. refl) (λ k e. e) (λ k e. e) l own st me serial sound) act may answers s i
    h
lasts l own st me act may answers sound (key_cancelled s i serial) h =
    stages_keep (Condition l own st me) st me (λ _ _ k. was_cancelled k serial ≡ true)
    (reached_keeps (λ k. k.cancelled) (λ k e. e) (λ k e. refl) (λ k e. e) l own st me serial sound) act may answers s i
    h
lasts l own st me act may answers sound (key_removed s i serial) h =
    stages_keep (Condition l own st me) st me (λ _ _ k. was_removed k serial ≡ true)
    (reached_keeps (λ k. k.removed) (λ k e. e) (λ k e. e) (λ k e. refl) l own st me serial sound) act may answers s i h
lasts l own st me act may answers sound (below_keys_high s i) h =
    lt-ltb i _ (keys_high_lasts st me act s i (ltb-true i _ h))
lasts l own st me act may answers sound (below_channels_high c) h =
    lt-ltb c _ (channels_high_lasts st me act c (ltb-true c _ h))
lasts l own st me act may answers sound (list_had_by s n) h = lister_lasts st me act answers s.0 n h

-- ---- over histories

pub lasts_step : (l : Limits) (past : List Event) (e : Event) → IsLegal l past → IsStep l past e → (f : PermanentFact)
    → stands f (state_after past) ≡ true → stands f (effect (state_after past) e.caller e.act) ≡ true
lasts_step l past e legal step =
    lasts l (mine e.caller past) (state_after past) e.caller e.act step.condition step.answers (legal-sound l past legal)

-- what is permanent stands in every legal longer history
pub permanent_stands : (l : Limits) (past later : List Event) → IsLegal l (past ++ later) → (f : PermanentFact)
    → stands f (state_after past) ≡ true → stands f (state_after (past ++ later)) ≡ true
permanent_stands l past later legal f = legal_from l (λ events. stands f (state_after events) ≡ true)
    (λ before e legal' step here. subst (λ st. stands f st ≡ true) (sym (state_after-more before e))
    (lasts_step l before e legal' step f here))
    past later legal
