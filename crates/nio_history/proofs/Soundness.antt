-- The state after every legal history is sound: each step keeps each fact.
use Rattle.std.proofs.Common.{◌≡◌, ℕ, ◌<◌, max, Bool, true, false, ◌&&◌, ◌||◌, not, ◌⊎◌, inl, inr, Option, Some, None}
use Rattle.std.proofs.Common.{is_some, is_none, List, refl, ap, sym, ◌∙◌, subst, arith}
use Rattle.std.specs.Prelude.{nat_lt}
use Rattle.std.proofs.lemmas.Bool.{and_parts, and_from, or_cases, cases_lt, false_from_ne_true, not-true}
use Rattle.std.proofs.Math.Bool.{and-false}
use Rattle.nio_base.specs.declared.limits.Limits.{Limits}
use Rattle.nio_base.specs.declared.numbers.CallerNo.{CallerNo}
use Rattle.nio_base.specs.declared.numbers.SelNo.{SelNo}
use Rattle.nio_base.specs.declared.numbers.ChanNo.{ChanNo}
use Rattle.nio_history.proofs.ChannelChanges.{channels_keep}
use Rattle.nio_history.proofs.Claims.{claim_pinned}
use Rattle.nio_history.proofs.KeyChanges.{KeepsStages, stages_keep, IsNoClaimAgain, back_parts, published_already}
use Rattle.nio_history.proofs.KeyChanges.{cancelled_already, removed_already}
use Rattle.nio_history.proofs.Lasts.{shut_lasts, made_lasts, claimed_lasts}
use Rattle.nio_history.proofs.Legal.{legal_induction}
use Rattle.nio_history.proofs.OneMore.{state_after-more, has-since_first}
use Rattle.nio_history.proofs.Put.{put_keeps, put_at_keeps, put_both, put_at_both, put_pin_keeps, put_pin_both}
use Rattle.nio_history.proofs.Told.{below_told}
use Rattle.nio_history.specs.Acts.{effect, taken_by, frees_index}
use Rattle.nio_history.specs.Answers.{Answers}
use Rattle.nio_history.specs.Conditions.{Condition, is_held_by, is_closer, has_begun, has_entered, has_taken}
use Rattle.nio_history.specs.Conditions.{may_remove_cancelled, may_put_due, may_publish, may_clear_out}
use Rattle.nio_history.specs.Histories.{state_after, mine, IsStep, IsLegal}
use Rattle.nio_history.specs.OwnEvents.{OwnClaim, has, enters, finds_below, since_entered, own_claim}
use Rattle.nio_history.specs.Sets.{in_cancelled_set, can_come_back}
use Rattle.nio_history.specs.Sound.{IsSound}
use Rattle.nio_base.specs.Numbers.{last_serial}
use Rattle.nio_history.specs.State.{State, opening, unmade_channel, unclaimed}
use Rattle.nio_history.specs.declared.act.Act.{Act}
use Rattle.nio_history.specs.declared.act.Act.TheVariants.{Claim, RaiseKeys, TakeTurn, BeginLook, GiveTurn}
use Rattle.nio_history.specs.declared.act.Act.TheVariants.{Remove, RaiseChannels, TryHoldBit, Release}
use Rattle.nio_history.specs.declared.act.Act.TheVariants.{ShutBit, Enter, Pin, Unpin, ClaimAgain, PutFree, TakeFree, Touch}
use Rattle.nio_history.specs.declared.event.Event.{Event}
use Rattle.nio_history.specs.declared.found.Stage.{Stage}

below_max : (a b c : ℕ) → c < max a b → (c < a) ⊎ (c < b)
below_max a b c h = elim (cases_lt c a) [ inl below ↦ inl below | inr above ↦ inr (omega arith) ]

-- a place that a caller holds isn't free
pub held_some : (me : CallerNo) (o : Option CallerNo) → is_held_by me o ≡ true → is_some o ≡ true
held_some me None h = absurd cc
held_some me (Some n) h = refl

taken_some : (me : CallerNo) (o : Option CallerNo) → is_some (taken_by me o) ≡ true
taken_some me None = refl
taken_some me (Some n) = refl

pub both_ways : (b : Bool) → b ≡ true → b ≡ false → ⊥
both_ways true e f = cc
both_ways false e f = cc

-- what is published, cancelled or removed is claimed
pub beyond-claimed : (st : State) → IsSound st → (s i : ℕ)
    → ((st.key s i).published || (st.key s i).cancelled || (st.key s i).removed) ≡ true → (st.key s i).claimed ≡ true
beyond-claimed st sound s i beyond = by_test (st.key s i).claimed refl
  where
    by_test : (b : Bool) → (st.key s i).claimed ≡ b → (st.key s i).claimed ≡ true
    by_test true e = e
    by_test false e =
        absurd (both_ways ((st.key s i).published || (st.key s i).cancelled || (st.key s i).removed) beyond
        (ap (λ k. k.published || k.cancelled || k.removed) (sound.unclaimed_bare s i e)))

-- an index that a caller has a pin on is claimed
pub pinned-claimed : (st : State) → IsSound st → (s i n : ℕ) → st.pinned s i n ≡ true → (st.key s i).claimed ≡ true
pinned-claimed st sound s i n pinned = by_test (st.key s i).claimed refl
  where
    by_test : (b : Bool) → (st.key s i).claimed ≡ b → (st.key s i).claimed ≡ true
    by_test true e = e
    by_test false e = absurd (both_ways (st.pinned s i n) pinned (sound.unclaimed_unpinned s i n e))

channels_below_step : (l : Limits) (own : List Act) (st : State) (me : CallerNo) (act : Act) → Condition l own st me act
    → IsSound st
    → (c : ℕ) → c < (effect st me act).channels_high → ((effect st me act).chan c).made ≡ true
channels_below_step l own st me (RaiseChannels n found) may sound c h =
    elim (below_max st.channels_high n c h) [ inl old ↦ sound.channels_below c old | inr new ↦ may.1 c new ]
channels_below_step l own st me act may sound c h = made_lasts st me act c (sound.channels_below c h)

keys_below_step : (l : Limits) (own : List Act) (st : State) (me : CallerNo) (act : Act) → Condition l own st me act
    → IsSound st
    → (s i : ℕ) → i < (effect st me act).keys_high s → ((effect st me act).key s i).claimed ≡ true
keys_below_step l own st me (RaiseKeys k n found) may sound s i h =
    put_keeps (λ s' m. i < m → (st.key s' i).claimed ≡ true) st.keys_high k.0 _
    (λ old below. elim (below_max (st.keys_high k.0) n i below) [ inl before ↦ old before | inr new ↦ may.2 i new ])
    s (sound.keys_below s i) h
keys_below_step l own st me act may sound s i h = claimed_lasts st me act s i (sound.keys_below s i h)

unmade_bare_step : (l : Limits) (own : List Act) (st : State) (me : CallerNo) (act : Act) → Condition l own st me act
    → Answers st me act → IsSound st
    → (c : ℕ) → ((effect st me act).chan c).made ≡ false → (effect st me act).chan c ≡ unmade_channel
unmade_bare_step l own st me act may answers sound c =
    channels_keep (Condition l own st me) st me (λ _ x. x.made ≡ false → x ≡ unmade_channel) (record {
      made = λ k kind _ _ _ e. absurd cc;
      mode = λ k blocking found may' _ e.
          absurd (both_ways (st.chan k.0).made (sound.held_made k.0 (held_some me (st.hold k.0) may'.1)) e);
      closed = λ k from found may' _ _ e.
          absurd (both_ways (st.chan k.0).made
          (and_parts (st.chan k.0).made (not (nat_lt (st.chan k.0).serial from.serial)) may'.1.was).0 e);
      reopened = λ k _ _ e. absurd cc;
    }) act may answers c (sound.unmade_bare c)

held_made_step : (l : Limits) (own : List Act) (st : State) (me : CallerNo) (act : Act) → Condition l own st me act
    → IsSound st
    → (c : ℕ) → is_some ((effect st me act).hold c) ≡ true → ((effect st me act).chan c).made ≡ true
held_made_step l own st me (TryHoldBit k found) may sound c =
    put_keeps (λ n o. is_some o ≡ true → (st.chan n).made ≡ true) st.hold k.0 _ (λ _ _. may.1) c (sound.held_made c)
held_made_step l own st me (Release k) may sound c =
    put_keeps (λ n o. is_some o ≡ true → (st.chan n).made ≡ true) st.hold k.0 _ (λ _ e. absurd cc) c (sound.held_made c)
held_made_step l own st me act may sound c = λ h. made_lasts st me act c (sound.held_made c h)

closer_shut_step : (st : State) (me : CallerNo) (act : Act) → IsSound st
    → (s : ℕ) → is_some ((effect st me act).closer s) ≡ true → ((effect st me act).gate s).shut ≡ true
closer_shut_step st me (ShutBit k found) sound s =
    put_both (λ _ o g. is_some o ≡ true → g.shut ≡ true) st.closer st.gate k.0 _ _ (λ _. refl) s (sound.closer_shut s)
closer_shut_step st me act sound s = λ h. shut_lasts st me act s (sound.closer_shut s h)

entered_closer_step : (l : Limits) (own : List Act) (st : State) (me : CallerNo) (act : Act) → Condition l own st me act
    → IsSound st
    → (s : ℕ) → (effect st me act).entered s ≡ true → is_some ((effect st me act).closer s) ≡ true
entered_closer_step l own st me (ShutBit k true) may sound s =
    λ h. put_keeps (λ _ o. is_some o ≡ true) st.closer k.0 _ (λ e. e) s (sound.entered_closer s h)
entered_closer_step l own st me (ShutBit k false) may sound s =
    λ h. put_keeps (λ _ o. is_some o ≡ true) st.closer k.0 _ (λ _. refl) s (sound.entered_closer s h)
entered_closer_step l own st me (Enter k found) may sound s =
    put_keeps (λ n b. b ≡ true → is_some (st.closer n) ≡ true) st.entered k.0 _
    (λ _ _. held_some me (st.closer k.0) may.1) s (sound.entered_closer s)
entered_closer_step l own st me act may sound s = sound.entered_closer s

begun_turn_step : (l : Limits) (own : List Act) (st : State) (me : CallerNo) (act : Act) → Condition l own st me act
    → IsSound st
    → (s : ℕ) → (effect st me act).begun s ≡ true → is_some ((effect st me act).turn s) ≡ true
begun_turn_step l own st me (TakeTurn k found) may sound s =
    put_both (λ _ b o. b ≡ true → is_some o ≡ true) st.begun st.turn k.0 _ _ (λ _. taken_some me found) s
    (sound.begun_turn s)
begun_turn_step l own st me (BeginLook k found) may sound s =
    put_keeps (λ n b. b ≡ true → is_some (st.turn n) ≡ true) st.begun k.0 _ (λ _ _. held_some me (st.turn k.0) may.1) s
    (sound.begun_turn s)
begun_turn_step l own st me (GiveTurn k) may sound s =
    put_both (λ _ b o. b ≡ true → is_some o ≡ true) st.begun st.turn k.0 false None (λ e. absurd cc) s
    (sound.begun_turn s)
begun_turn_step l own st me act may sound s = sound.begun_turn s

begun_open_step : (st : State) (me : CallerNo) (act : Act) → Answers st me act → IsSound st
    → (s : ℕ) → (effect st me act).begun s ≡ true → (effect st me act).entered s ≡ false
begun_open_step st me (TakeTurn k found) answers sound s =
    put_keeps (λ n b. b ≡ true → st.entered n ≡ false) st.begun k.0 _
    (λ old e. old (and_parts (is_some found) (st.begun k.0) e).1) s (sound.begun_open s)
begun_open_step st me (BeginLook k found) answers sound s =
    put_keeps (λ n b. b ≡ true → st.entered n ≡ false) st.begun k.0 _
    (λ old e. elim (or_cases (st.begun k.0) (not found.shut) e) [
      | inl begun ↦ old begun
      | inr open_still ↦ false_from_ne_true _ (not_entered open_still)
    ])
    s (sound.begun_open s)
  where
    not_entered : not found.shut ≡ true → st.entered k.0 ≡ true → ⊥
    not_entered open_still entered =
        let is_shut : (st.gate k.0).shut ≡ true = sound.closer_shut k.0 (sound.entered_closer k.0 entered) in
        let gate_is : found ≡ st.gate k.0 = cc in
        let shut_found : found.shut ≡ true = ap (λ g. g.shut) gate_is ∙ is_shut in
        let clash : false ≡ true = ap not (sym shut_found) ∙ open_still in
        cc
begun_open_step st me (GiveTurn k) answers sound s =
    put_keeps (λ n b. b ≡ true → st.entered n ≡ false) st.begun k.0 false (λ _ e. absurd cc) s (sound.begun_open s)
begun_open_step st me (Enter k found) answers sound s =
    put_keeps (λ n b. st.begun n ≡ true → b ≡ false) st.entered k.0 _
    (λ old begun. still_closed (sound.begun_turn k.0 begun) (old begun))
    s (sound.begun_open s)
  where
    some_not_none : (o : Option CallerNo) → is_some o ≡ true → is_none o ≡ false
    some_not_none None e = absurd cc
    some_not_none (Some n) e = refl

    still_closed : is_some (st.turn k.0) ≡ true → st.entered k.0 ≡ false → (st.entered k.0 || is_none found) ≡ false
    still_closed held out =
        let turn_is : found ≡ st.turn k.0 = cc in
        let taken : is_none found ≡ false = ap is_none turn_is ∙ some_not_none (st.turn k.0) held in
        ap (λ b. b || is_none found) out ∙ taken
begun_open_step st me act answers sound s = sound.begun_open s

-- ---- the stages of keys

-- a key of the cancelled set
pub record IsCancelled (k : Stage) : Type 0 where
  pub published : k.published ≡ true
  pub not_removed : k.removed ≡ false
  pub cancelled : k.cancelled ≡ true

pub cancelled_parts : (k : Stage) → in_cancelled_set k ≡ true → IsCancelled k
cancelled_parts k in_set =
    let both = and_parts (k.published && not k.removed) k.cancelled in_set in
    let first_two = and_parts k.published (not k.removed) both.0 in
    record {
      published = first_two.0;
      not_removed = not-true k.removed first_two.1;
      cancelled = both.1;
    }

-- who may remove a key: a selecting caller a key of the cancelled set, and a closer that has entered an index that
-- it found below the high-water mark
pub may_remove : (st : State) (own : List Act) (me : CallerNo) (s : SelNo) (i : ℕ)
    → (may_remove_cancelled st me s i || may_clear_out st own me s i) ≡ true
    → ((has_begun st me s ≡ true) × IsCancelled (st.key s.0 i))
    ⊎ ((st.entered s.0 ≡ true) × (has (finds_below s.0 i) (since_entered s.0 own) ≡ true))
may_remove st own me s i may =
    elim (or_cases (may_remove_cancelled st me s i) (may_clear_out st own me s i) may) [
      | inl sweep ↦
          let both = and_parts (has_begun st me s) (in_cancelled_set (st.key s.0 i)) sweep in
          inl (both.0, cancelled_parts (st.key s.0 i) both.1)
      | inr clear ↦
          let both = and_parts (has_entered st me s) (has (finds_below s.0 i) (since_entered s.0 own)) clear in
          inr ((and_parts (is_closer st me s) (st.entered s.0) both.0).1, both.1)
    ]

-- what may be removed is claimed
remove_claimed : (l : Limits) (past : List Event) (me : CallerNo) (s : SelNo) (i : ℕ) → IsLegal l past
    → IsSound (state_after past)
    → (may_remove_cancelled (state_after past) me s i || may_clear_out (state_after past) (mine me past) me s i) ≡ true
    → ((state_after past).key s.0 i).claimed ≡ true
remove_claimed l past me s i legal sound may =
    let st : State = state_after past in
    let key : Stage = st.key s.0 i in
    elim (may_remove st (mine me past) me s i may) [
      | inl sweep ↦ beyond-claimed st sound s.0 i (ap (λ b. b || key.cancelled || key.removed) sweep.1.published)
      | inr clear ↦ sound.keys_below s.0 i
          (below_told l me past s.0 i legal (has-since_first (finds_below s.0 i) (enters s.0) (mine me past) clear.1))
    ]

-- who may publish the key of an index has a claim of it, and a pin on it
publish_claimed : (l : Limits) (past : List Event) (me : CallerNo) (s : SelNo) (i : ℕ) → IsLegal l past
    → IsSound (state_after past)
    → may_publish (state_after past) (mine me past) me (own_claim s.0 i (mine me past)) ≡ true
    → ((state_after past).key s.0 i).claimed ≡ true
publish_claimed l past me s i legal sound may = by_claim (own_claim s.0 i (mine me past)) refl may
  where
    by_claim : (x : Option OwnClaim) → own_claim s.0 i (mine me past) ≡ x
        → may_publish (state_after past) (mine me past) me x ≡ true → ((state_after past).key s.0 i).claimed ≡ true
    by_claim None is may' = absurd cc
    by_claim (Some claim) is may' =
        pinned-claimed (state_after past) sound s.0 i me.0 (claim_pinned l me past s.0 i claim legal is)

unclaimed_bare_step : (l : Limits) (past : List Event) (e : Event) → IsLegal l past → IsStep l past e
    → IsSound (state_after past)
    → (s i : ℕ) → ((effect (state_after past) e.caller e.act).key s i).claimed ≡ false
    → (effect (state_after past) e.caller e.act).key s i ≡ unclaimed
unclaimed_bare_step l past e legal step sound s i =
    stages_keep (Condition l (mine e.caller past) st e.caller) st e.caller (λ _ _ k. k.claimed ≡ false → k ≡ unclaimed)
    (record {
      claimed = λ s' i' c _ _ e'. absurd cc;
      published = λ s' i' found may _ e'. absurd
          (both_ways (st.key s'.0 i').claimed (publish_claimed l past e.caller s' i' legal sound may.1) e');
      cancelled = λ s' i' found may _ e'. absurd (both_ways (st.key s'.0 i').claimed may.1 e');
      removed = λ s' i' found may _ e'. absurd
          (both_ways (st.key s'.0 i').claimed (remove_claimed l past e.caller s' i' legal sound may.1) e');
      again = λ s' i' c from may _ _ e'. absurd cc;
    }) e.act step.condition step.answers s i (sound.unclaimed_bare s i)
  where
    st : State
    st = state_after past

-- ---- pins

unclaimed_unpinned_step : (l : Limits) (own : List Act) (st : State) (me : CallerNo) (act : Act)
    → Condition l own st me act → IsSound st
    → (s i n : ℕ) → ((effect st me act).key s i).claimed ≡ false → (effect st me act).pinned s i n ≡ false
unclaimed_unpinned_step l own st me (Claim s' i' c true) may sound s i n =
    put_at_both (λ _ _ k g. k.claimed ≡ false → g n ≡ false) st.key st.pinned s'.0 i' _ _
    (λ old e. put_keeps (λ _ b. b ≡ false) (st.pinned s'.0 i') me.0 _ (λ e'. ap (λ b. b || false) e') n (old e)) s i
    (sound.unclaimed_unpinned s i n)
unclaimed_unpinned_step l own st me (Claim s' i' c false) may sound s i n =
    put_at_both (λ _ _ k g. k.claimed ≡ false → g n ≡ false) st.key st.pinned s'.0 i' _ _ (λ _ e. absurd cc) s i
    (sound.unclaimed_unpinned s i n)
unclaimed_unpinned_step l own st me (ClaimAgain s' i' c from true) may sound s i n =
    put_at_both (λ _ _ k g. k.claimed ≡ false → g n ≡ false) st.key st.pinned s'.0 i' _ _
    (λ old e. put_keeps (λ _ b. b ≡ false) (st.pinned s'.0 i') me.0 _ (λ e'. ap (λ b. b || false) e') n (old e)) s i
    (sound.unclaimed_unpinned s i n)
unclaimed_unpinned_step l own st me (ClaimAgain s' i' c from false) may sound s i n =
    put_at_both (λ _ _ k g. k.claimed ≡ false → g n ≡ false) st.key st.pinned s'.0 i' _ _ (λ _ e. absurd cc) s i
    (sound.unclaimed_unpinned s i n)
unclaimed_unpinned_step l own st me (Pin s' i' found) may sound s i n =
    put_pin_keeps (λ a b _ x. (st.key a b).claimed ≡ false → x ≡ false) st.pinned s'.0 i' me.0 true
    (λ _ e. absurd (both_ways (st.key s'.0 i').claimed may.1 e)) s i n (sound.unclaimed_unpinned s i n)
unclaimed_unpinned_step l own st me (Unpin s' i') may sound s i n =
    put_pin_keeps (λ a b _ x. (st.key a b).claimed ≡ false → x ≡ false) st.pinned s'.0 i' me.0 false (λ _ _. refl) s i n
    (sound.unclaimed_unpinned s i n)
unclaimed_unpinned_step l own st me act may sound s i n = λ e.
    sound.unclaimed_unpinned s i n
    (false_from_ne_true (st.key s i).claimed (λ was. both_ways _ (claimed_lasts st me act s i was) e))

-- a caller that is amid a change of an index has a pin on it
amid_pinned_step : (st : State) (me : CallerNo) (act : Act) → IsSound st
    → (s i n : ℕ) → (effect st me act).amid s i n ≡ true → (effect st me act).pinned s i n ≡ true
amid_pinned_step st me (Claim s' i' c found) sound s i n = λ amid.
    put_pin_keeps (λ _ _ _ x. x ≡ true) st.pinned s'.0 i' me.0 _ (λ e. ap (λ b. b || not found) e) s i n
    (sound.amid_pinned s i n amid)
amid_pinned_step st me (ClaimAgain s' i' c from found) sound s i n = λ amid.
    put_pin_keeps (λ _ _ _ x. x ≡ true) st.pinned s'.0 i' me.0 _ (λ e. ap (λ b. b || not found) e) s i n
    (sound.amid_pinned s i n amid)
amid_pinned_step st me (Pin s' i' found) sound s i n = λ amid.
    put_pin_keeps (λ _ _ _ x. x ≡ true) st.pinned s'.0 i' me.0 true (λ _. refl) s i n (sound.amid_pinned s i n amid)
amid_pinned_step st me (Unpin s' i') sound s i n =
    put_pin_both (λ _ _ _ x y. x ≡ true → y ≡ true) st.amid st.pinned s'.0 i' me.0 false false (λ e. e) s i n
    (sound.amid_pinned s i n)
amid_pinned_step st me (Touch s' i' found) sound s i n =
    put_pin_keeps (λ a b m x. x ≡ true → st.pinned a b m ≡ true) st.amid s'.0 i' me.0 (st.pinned s'.0 i' me.0)
    (λ _ e. e) s i n (sound.amid_pinned s i n)
amid_pinned_step st me act sound s i n = sound.amid_pinned s i n

-- ---- indexes that are free, taken, or still to be put

-- who may put an index puts one that can come back
put_back : (st : State) (me : CallerNo) (s : SelNo) (i : ℕ) → IsSound st
    → (has_taken st me s i || may_put_due st me s i) ≡ true → can_come_back (st.key s.0 i) ≡ true
put_back st me s i sound may =
    elim (or_cases (has_taken st me s i) (may_put_due st me s i) may) [
      | inl taken ↦ sound.taken_back s.0 i (held_some me (st.taker s.0 i) taken)
      | inr dropped ↦ sound.due_back s.0 i (and_parts (has_begun st me s) (st.put_due s.0 i) dropped).1
    ]

again_published : (k : Stage) → can_come_back k ≡ true → can_come_back (record k { published = true }) ≡ true
again_published k back =
    subst (λ x. can_come_back x ≡ true) (sym (published_already k (back_parts k back).published)) back

again_cancelled : (k : Stage) → can_come_back k ≡ true → can_come_back (record k { cancelled = true }) ≡ true
again_cancelled k back =
    subst (λ x. can_come_back x ≡ true) (sym (cancelled_already k (back_parts k back).cancelled)) back

again_removed : (k : Stage) → can_come_back k ≡ true → can_come_back (record k { removed = true }) ≡ true
again_removed k back = subst (λ x. can_come_back x ≡ true) (sym (removed_already k (back_parts k back).removed)) back

-- an index that can come back is claimed
pub back_not_unclaimed : (k : Stage) → can_come_back k ≡ true → k.claimed ≡ false → ⊥
back_not_unclaimed k back e = both_ways k.claimed (back_parts k back).claimed e

-- where no step claims an index again of which `F` stands, an index of which it stands can come back after the step too
back_keeps : (May : Act → Type 0) (st : State) (F : ℕ → ℕ → Type 0)
    → ((s : SelNo) (i : ℕ) (c : ChanNo) (from : Stage) → May (ClaimAgain s i c from false) → F s.0 i → ⊥)
    → KeepsStages May st (λ s i k. F s i → can_come_back k ≡ true)
back_keeps May st F never = record {
  claimed = λ s i c unclaimed_yet old here. absurd (back_not_unclaimed (st.key s.0 i) (old here) unclaimed_yet);
  published = λ s i found may old here. again_published (st.key s.0 i) (old here);
  cancelled = λ s i found may old here. again_cancelled (st.key s.0 i) (old here);
  removed = λ s i found may old here. again_removed (st.key s.0 i) (old here);
  again = λ s i c from may unpinned old here. absurd (never s i c from may here);
}

-- nobody has taken a free index
pub free_not_taken : (st : State) → IsSound st → (s i : ℕ) → st.free s i ≡ true → is_some (st.taker s i) ≡ true → ⊥
free_not_taken st sound s i free taken =
    let clash : true ≡ false = sym taken ∙ ap is_some (sound.free_untaken s i free) in
    cc

-- a selection hasn't to put an index that a caller has taken
pub taken_not_dropped : (st : State) → IsSound st → (me : CallerNo) (s : SelNo) (i : ℕ) → has_taken st me s i ≡ true
    → st.put_due s.0 i ≡ true → ⊥
taken_not_dropped st sound me s i taken dropped =
    both_ways (st.put_due s.0 i) dropped (sound.taken_not_due s.0 i (held_some me (st.taker s.0 i) taken))

free_back_step : (l : Limits) (own : List Act) (st : State) (me : CallerNo) (act : Act) → Condition l own st me act
    → Answers st me act → IsSound st
    → (s i : ℕ) → (effect st me act).free s i ≡ true → can_come_back ((effect st me act).key s i) ≡ true
free_back_step l own st me (PutFree s' i') may answers sound s i =
    put_at_keeps (λ a b x. x ≡ true → can_come_back (st.key a b) ≡ true) st.free s'.0 i' true
    (λ _ _. put_back st me s' i' sound may.1) s i (sound.free_back s i)
free_back_step l own st me (TakeFree s' i' found) may answers sound s i =
    put_at_keeps (λ a b x. x ≡ true → can_come_back (st.key a b) ≡ true) st.free s'.0 i' false (λ _ e. absurd cc) s i
    (sound.free_back s i)
free_back_step l own st me act may answers sound s i =
    stages_keep (Condition l own st me) st me (λ a b k. st.free a b ≡ true → can_come_back k ≡ true)
    (back_keeps (Condition l own st me) st (λ a b. st.free a b ≡ true)
    (λ s' i' c from may' free. free_not_taken st sound s'.0 i' free (held_some me (st.taker s'.0 i') may'.3)))
    act may answers s i (sound.free_back s i)

taken_back_step : (st : State) (me : CallerNo) (act : Act) → Answers st me act → IsSound st
    → (s i : ℕ) → is_some ((effect st me act).taker s i) ≡ true → can_come_back ((effect st me act).key s i) ≡ true
taken_back_step st me (ClaimAgain s' i' c from true) answers sound s i =
    put_at_both (λ _ _ k o. is_some o ≡ true → can_come_back k ≡ true) st.key st.taker s'.0 i' _ _ (λ old. old) s i
    (sound.taken_back s i)
taken_back_step st me (ClaimAgain s' i' c from false) answers sound s i =
    put_at_both (λ _ _ k o. is_some o ≡ true → can_come_back k ≡ true) st.key st.taker s'.0 i' _ None
    (λ _ e. absurd cc) s i (sound.taken_back s i)
taken_back_step st me (PutFree s' i') answers sound s i =
    put_at_keeps (λ a b o. is_some o ≡ true → can_come_back (st.key a b) ≡ true) st.taker s'.0 i' None
    (λ _ e. absurd cc) s i (sound.taken_back s i)
taken_back_step st me (TakeFree s' i' true) answers sound s i =
    let was_free : st.free s'.0 i' ≡ true = cc in
    put_at_keeps (λ a b o. is_some o ≡ true → can_come_back (st.key a b) ≡ true) st.taker s'.0 i' (Some me)
    (λ _ _. sound.free_back s'.0 i' was_free) s i (sound.taken_back s i)
taken_back_step st me (TakeFree s' i' false) answers sound s i =
    put_at_keeps (λ a b o. is_some o ≡ true → can_come_back (st.key a b) ≡ true) st.taker s'.0 i' (st.taker s'.0 i')
    (λ old. old) s i (sound.taken_back s i)
taken_back_step st me act answers sound s i =
    stages_keep IsNoClaimAgain st me (λ a b k. is_some (st.taker a b) ≡ true → can_come_back k ≡ true)
    (back_keeps IsNoClaimAgain st (λ a b. is_some (st.taker a b) ≡ true) (λ s' i' c from may _. may s' i' c from refl))
    act (λ s' i' c from is. cc) answers s i (sound.taken_back s i)

-- what a selection removes can come back, where its serial is below the last
removed_back : (l : Limits) (own : List Act) (st : State) (me : CallerNo) (s : SelNo) (i : ℕ) (found : Stage)
    → IsSound st → Condition l own st me (Remove s i found)
    → found ≡ st.key s.0 i → (st.begun s.0 && frees_index found) ≡ true
    → can_come_back (record (st.key s.0 i) { removed = true }) ≡ true
removed_back l own st me s i found sound may found_is begun_frees =
    let both = and_parts (st.begun s.0) (frees_index found) begun_frees in
    let below : nat_lt (st.key s.0 i).serial last_serial ≡ true =
    ap (λ k. nat_lt k.serial last_serial) (sym found_is)
    ∙ (and_parts (not found.removed) (nat_lt found.serial last_serial) both.1).1 in
    elim (may_remove st own me s i may.1) [
      | inl sweep ↦
          let k : Stage = st.key s.0 i in
          let claimed : k.claimed ≡ true = beyond-claimed st sound s.0 i
          (ap (λ b. b || k.cancelled || k.removed) sweep.1.published) in
          and_from (k.claimed && k.published && k.cancelled && true) (nat_lt k.serial last_serial)
          (and_from (k.claimed && k.published && k.cancelled) true
          (and_from (k.claimed && k.published) k.cancelled (and_from k.claimed k.published claimed sweep.1.published)
          sweep.1.cancelled) refl) below
      | inr clear ↦ absurd (both_ways (st.entered s.0) clear.0 (sound.begun_open s.0 both.0))
    ]

dropped_back_step : (l : Limits) (own : List Act) (st : State) (me : CallerNo) (act : Act) → Condition l own st me act
    → Answers st me act → IsSound st
    → (s i : ℕ) → (effect st me act).put_due s i ≡ true → can_come_back ((effect st me act).key s i) ≡ true
dropped_back_step l own st me (Remove s' i' found) may answers sound s i =
    let found_is : found ≡ st.key s'.0 i' = cc in
    put_at_both (λ _ _ k x. x ≡ true → can_come_back k ≡ true) st.key st.put_due s'.0 i' _ _
    (λ old e. elim (or_cases (st.put_due s'.0 i') (st.begun s'.0 && frees_index found) e) [
      | inl before ↦ again_removed (st.key s'.0 i') (old before)
      | inr now ↦ removed_back l own st me s' i' found sound may found_is now
    ]) s i (sound.due_back s i)
dropped_back_step l own st me (PutFree s' i') may answers sound s i =
    put_at_keeps (λ a b x. x ≡ true → can_come_back (st.key a b) ≡ true) st.put_due s'.0 i' false (λ _ e. absurd cc) s i
    (sound.due_back s i)
dropped_back_step l own st me (GiveTurn k) may answers sound s i =
    put_keeps (λ a x. x ≡ true → can_come_back (st.key a i) ≡ true) (λ a. st.put_due a i) k.0 false (λ _ e. absurd cc) s
    (sound.due_back s i)
dropped_back_step l own st me act may answers sound s i =
    stages_keep (Condition l own st me) st me (λ a b k. st.put_due a b ≡ true → can_come_back k ≡ true)
    (back_keeps (Condition l own st me) st (λ a b. st.put_due a b ≡ true)
    (λ s' i' c from may' dropped. taken_not_dropped st sound me s' i' may'.3 dropped))
    act may answers s i (sound.due_back s i)

free_untaken_step : (st : State) (me : CallerNo) (act : Act) → IsSound st → (s i : ℕ)
    → (effect st me act).free s i ≡ true → (effect st me act).taker s i ≡ None
free_untaken_step st me (PutFree s' i') sound s i =
    put_at_both (λ _ _ x o. x ≡ true → o ≡ None) st.free st.taker s'.0 i' true None (λ _ _. refl) s i
    (sound.free_untaken s i)
free_untaken_step st me (TakeFree s' i' found) sound s i =
    put_at_both (λ _ _ x o. x ≡ true → o ≡ None) st.free st.taker s'.0 i' false _ (λ _ e. absurd cc) s i
    (sound.free_untaken s i)
free_untaken_step st me (ClaimAgain s' i' c from true) sound s i =
    put_at_keeps (λ a b o. st.free a b ≡ true → o ≡ None) st.taker s'.0 i' (st.taker s'.0 i') (λ old. old) s i
    (sound.free_untaken s i)
free_untaken_step st me (ClaimAgain s' i' c from false) sound s i =
    put_at_keeps (λ a b o. st.free a b ≡ true → o ≡ None) st.taker s'.0 i' None (λ _ _. refl) s i
    (sound.free_untaken s i)
free_untaken_step st me act sound s i = sound.free_untaken s i

-- after the removal of a key that was removed before, no index more is to be put
not_dropped_now : (dropped begun : Bool) (found k : Stage) → found ≡ k → can_come_back k ≡ true → dropped ≡ false
    → (dropped || (begun && frees_index found)) ≡ false
not_dropped_now dropped begun found k found_is back undropped =
    let stays : frees_index found ≡ false = ap (λ x. not x.removed && nat_lt x.serial last_serial) found_is
    ∙ ap (λ b. not b && nat_lt k.serial last_serial) (back_parts k back).removed in
    ap (λ b. b || (begun && frees_index found)) undropped ∙ (ap (λ b. begun && b) stays ∙ and-false begun)

free_undropped_step : (st : State) (me : CallerNo) (act : Act) → Answers st me act → IsSound st
    → (s i : ℕ) → (effect st me act).free s i ≡ true → (effect st me act).put_due s i ≡ false
free_undropped_step st me (PutFree s' i') answers sound s i =
    put_at_both (λ _ _ x y. x ≡ true → y ≡ false) st.free st.put_due s'.0 i' true false (λ _ _. refl) s i
    (sound.free_not_due s i)
free_undropped_step st me (TakeFree s' i' found) answers sound s i =
    put_at_keeps (λ a b x. x ≡ true → st.put_due a b ≡ false) st.free s'.0 i' false (λ _ e. absurd cc) s i
    (sound.free_not_due s i)
free_undropped_step st me (Remove s' i' found) answers sound s i =
    let found_is : found ≡ st.key s'.0 i' = cc in
    put_at_keeps (λ a b y. st.free a b ≡ true → y ≡ false) st.put_due s'.0 i' _
    (λ old e. not_dropped_now (st.put_due s'.0 i') (st.begun s'.0) found (st.key s'.0 i') found_is
    (sound.free_back s'.0 i' e) (old e)) s i (sound.free_not_due s i)
free_undropped_step st me (GiveTurn k) answers sound s i =
    put_keeps (λ a y. st.free a i ≡ true → y ≡ false) (λ a. st.put_due a i) k.0 false (λ _ _. refl) s
    (sound.free_not_due s i)
free_undropped_step st me act answers sound s i = sound.free_not_due s i

taken_undropped_step : (st : State) (me : CallerNo) (act : Act) → Answers st me act → IsSound st
    → (s i : ℕ) → is_some ((effect st me act).taker s i) ≡ true → (effect st me act).put_due s i ≡ false
taken_undropped_step st me (PutFree s' i') answers sound s i =
    put_at_both (λ _ _ o y. is_some o ≡ true → y ≡ false) st.taker st.put_due s'.0 i' None false (λ _ _. refl) s i
    (sound.taken_not_due s i)
taken_undropped_step st me (TakeFree s' i' true) answers sound s i =
    let was_free : st.free s'.0 i' ≡ true = cc in
    put_at_keeps (λ a b o. is_some o ≡ true → st.put_due a b ≡ false) st.taker s'.0 i' (Some me)
    (λ _ _. sound.free_not_due s'.0 i' was_free) s i (sound.taken_not_due s i)
taken_undropped_step st me (TakeFree s' i' false) answers sound s i =
    put_at_keeps (λ a b o. is_some o ≡ true → st.put_due a b ≡ false) st.taker s'.0 i' (st.taker s'.0 i')
    (λ old. old) s i (sound.taken_not_due s i)
taken_undropped_step st me (ClaimAgain s' i' c from true) answers sound s i =
    put_at_keeps (λ a b o. is_some o ≡ true → st.put_due a b ≡ false) st.taker s'.0 i' (st.taker s'.0 i')
    (λ old. old) s i (sound.taken_not_due s i)
taken_undropped_step st me (ClaimAgain s' i' c from false) answers sound s i =
    put_at_keeps (λ a b o. is_some o ≡ true → st.put_due a b ≡ false) st.taker s'.0 i' None (λ _ e. absurd cc) s i
    (sound.taken_not_due s i)
taken_undropped_step st me (Remove s' i' found) answers sound s i =
    let found_is : found ≡ st.key s'.0 i' = cc in
    put_at_keeps (λ a b y. is_some (st.taker a b) ≡ true → y ≡ false) st.put_due s'.0 i' _
    (λ old e. not_dropped_now (st.put_due s'.0 i') (st.begun s'.0) found (st.key s'.0 i') found_is
    (sound.taken_back s'.0 i' e) (old e)) s i (sound.taken_not_due s i)
taken_undropped_step st me (GiveTurn k) answers sound s i =
    put_keeps (λ a y. is_some (st.taker a i) ≡ true → y ≡ false) (λ a. st.put_due a i) k.0 false (λ _ _. refl) s
    (sound.taken_not_due s i)
taken_undropped_step st me act answers sound s i = sound.taken_not_due s i

dropped_begun_step : (st : State) (me : CallerNo) (act : Act) → Answers st me act → IsSound st
    → (s i : ℕ) → (effect st me act).put_due s i ≡ true → (effect st me act).begun s ≡ true
dropped_begun_step st me (Remove s' i' found) answers sound s i =
    put_at_keeps (λ a b x. x ≡ true → st.begun a ≡ true) st.put_due s'.0 i' _
    (λ old e. elim (or_cases (st.put_due s'.0 i') (st.begun s'.0 && frees_index found) e) [
      | inl before ↦ old before
      | inr now ↦ (and_parts (st.begun s'.0) (frees_index found) now).0
    ]) s i (sound.due_begun s i)
dropped_begun_step st me (PutFree s' i') answers sound s i =
    put_at_keeps (λ a b x. x ≡ true → st.begun a ≡ true) st.put_due s'.0 i' false (λ _ e. absurd cc) s i
    (sound.due_begun s i)
dropped_begun_step st me (GiveTurn k) answers sound s i =
    put_both (λ _ x b. x ≡ true → b ≡ true) (λ a. st.put_due a i) st.begun k.0 false false (λ e. e) s
    (sound.due_begun s i)
dropped_begun_step st me (TakeTurn k found) answers sound s i =
    let found_is : found ≡ st.turn k.0 = cc in
    put_keeps (λ a b. st.put_due a i ≡ true → b ≡ true) st.begun k.0 _
    (λ old e. and_from (is_some found) (st.begun k.0) (ap is_some found_is ∙ sound.begun_turn k.0 (old e)) (old e)) s
    (sound.due_begun s i)
dropped_begun_step st me (BeginLook k found) answers sound s i =
    put_keeps (λ a b. st.put_due a i ≡ true → b ≡ true) st.begun k.0 _ (λ old e. ap (λ b. b || not found.shut) (old e))
    s (sound.due_begun s i)
dropped_begun_step st me act answers sound s i = sound.due_begun s i

sound_opening : IsSound opening
sound_opening = record {
  channels_below = λ c h. absurd (omega arith);
  keys_below = λ s i h. absurd (omega arith);
  unmade_bare = λ c h. refl;
  unclaimed_bare = λ s i h. refl;
  held_made = λ c h. absurd cc;
  closer_shut = λ s h. absurd cc;
  entered_closer = λ s h. absurd cc;
  begun_turn = λ s h. absurd cc;
  begun_open = λ s h. absurd cc;
  unclaimed_unpinned = λ s i n h. refl;
  free_back = λ s i h. absurd cc;
  taken_back = λ s i h. absurd cc;
  due_back = λ s i h. absurd cc;
  free_untaken = λ s i h. refl;
  free_not_due = λ s i h. refl;
  taken_not_due = λ s i h. refl;
  due_begun = λ s i h. absurd cc;
  amid_pinned = λ s i n h. absurd cc;
}

sound_step : (l : Limits) (past : List Event) (e : Event) → IsLegal l past → IsStep l past e
    → IsSound (state_after past) → IsSound (effect (state_after past) e.caller e.act)
sound_step l past e legal step sound = record {
  channels_below = channels_below_step l (mine e.caller past) (state_after past) e.caller e.act step.condition sound;
  keys_below = keys_below_step l (mine e.caller past) (state_after past) e.caller e.act step.condition sound;
  unmade_bare = unmade_bare_step l (mine e.caller past) (state_after past) e.caller e.act step.condition step.answers
      sound;
  unclaimed_bare = unclaimed_bare_step l past e legal step sound;
  held_made = held_made_step l (mine e.caller past) (state_after past) e.caller e.act step.condition sound;
  closer_shut = closer_shut_step (state_after past) e.caller e.act sound;
  entered_closer = entered_closer_step l (mine e.caller past) (state_after past) e.caller e.act step.condition sound;
  begun_turn = begun_turn_step l (mine e.caller past) (state_after past) e.caller e.act step.condition sound;
  begun_open = begun_open_step (state_after past) e.caller e.act step.answers sound;
  unclaimed_unpinned = unclaimed_unpinned_step l (mine e.caller past) (state_after past) e.caller e.act step.condition
      sound;
  free_back = free_back_step l (mine e.caller past) (state_after past) e.caller e.act step.condition step.answers sound;
  taken_back = taken_back_step (state_after past) e.caller e.act step.answers sound;
  due_back = dropped_back_step l (mine e.caller past) (state_after past) e.caller e.act step.condition step.answers
      sound;
  free_untaken = free_untaken_step (state_after past) e.caller e.act sound;
  free_not_due = free_undropped_step (state_after past) e.caller e.act step.answers sound;
  taken_not_due = taken_undropped_step (state_after past) e.caller e.act step.answers sound;
  due_begun = dropped_begun_step (state_after past) e.caller e.act step.answers sound;
  amid_pinned = amid_pinned_step (state_after past) e.caller e.act sound;
}

pub legal-sound : (l : Limits) (events : List Event) → IsLegal l events → IsSound (state_after events)
legal-sound l = legal_induction l (λ events. IsSound (state_after events)) sound_opening
    (λ past e legal step sound. subst IsSound (sym (state_after-more past e)) (sound_step l past e legal step sound))
