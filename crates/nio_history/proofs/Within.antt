-- Every number that the state after a legal history speaks of is within the limits: each step keeps
-- that.
use Rattle.std.proofs.Common.{◌≡◌, ℕ, ◌/◌, ◌==◌, ◌<◌, ◌≤◌, max, Bool, true, false, cond, ◌&&◌, suc, ap, Option, Some, None, List, sym}
use Rattle.std.proofs.Common.{subst, arith}
use Rattle.std.specs.Option.{ForSome}
use Rattle.std.proofs.lemmas.Bool.{ltb-true}
use Rattle.nio_base.specs.declared.limits.Limits.{Limits}
use Rattle.nio_base.specs.declared.numbers.CallerNo.{CallerNo}
use Rattle.nio_base.specs.declared.numbers.SelNo.{SelNo}
use Rattle.nio_history.proofs.ChannelChanges.{channels_keep}
use Rattle.nio_history.proofs.Claims.{claim_told, if_some}
use Rattle.nio_history.proofs.KeyChanges.{stages_keep, back_parts}
use Rattle.nio_history.proofs.Legal.{legal_induction}
use Rattle.nio_history.proofs.OneMore.{state_after-more}
use Rattle.nio_history.proofs.Put.{put_keeps, put_at_keeps, put_pin_keeps}
use Rattle.nio_history.proofs.Soundness.{legal-sound, held_some}
use Rattle.nio_history.specs.Acts.{effect, new_key, taken_by}
use Rattle.nio_history.specs.Answers.{Answers}
use Rattle.nio_history.specs.Conditions.{Condition, IsCaller, IsChannel}
use Rattle.nio_history.specs.Histories.{state_after, mine, IsStep, IsLegal}
use Rattle.nio_history.specs.OwnEvents.{OwnClaim, claim_changed, own_claim}
use Rattle.nio_history.specs.Sound.{IsSound, IsWithin}
use Rattle.nio_base.specs.Numbers.{last_serial}
use Rattle.nio_history.specs.State.{State, opening, put_at}
use Rattle.nio_history.specs.declared.act.Act.{Act}
use Rattle.nio_history.specs.declared.act.Act.TheVariants.{DrawBit, MakeSelector, SetInterrupt, TakeInterrupt}
use Rattle.nio_history.specs.declared.act.Act.TheVariants.{CancelKey}
use Rattle.nio_history.specs.declared.act.Act.TheVariants.{Claim, RaiseKeys, Publish, Enrol, TakeTurn}
use Rattle.nio_history.specs.declared.act.Act.TheVariants.{GiveTurn, Remove, RaiseChannels, TryHoldBit, Release}
use Rattle.nio_history.specs.declared.act.Act.TheVariants.{ShutBit, Pin, Unpin, ClaimAgain, PutFree, TakeFree, Touch}
use Rattle.nio_history.specs.declared.act.Act.TheVariants.{TakeTouched, TakeList}
use Rattle.nio_history.specs.declared.event.Event.{Event}
use Rattle.nio_history.specs.declared.found.Stage.{Stage}

drawn_within : (l : Limits) (own : List Act) (st : State) (me : CallerNo) (act : Act) → Condition l own st me act
    → IsWithin l st
    → (n : ℕ) → (effect st me act).drawn n ≡ true → n < l.callers
drawn_within l own st me (DrawBit k found) may here n =
    put_keeps (λ m b. b ≡ true → m < l.callers) st.drawn k.0 true (λ _ _. may.0) n (here.drawn n)
drawn_within l own st me act may here n = here.drawn n

interrupted_within : (l : Limits) (own : List Act) (st : State) (me : CallerNo) (act : Act) → Condition l own st me act
    → IsWithin l st
    → (n : ℕ) → (effect st me act).interrupted n ≡ true → n < l.callers
interrupted_within l own st me (SetInterrupt k found) may here n =
    put_keeps (λ m b. b ≡ true → m < l.callers) st.interrupted k.0 true (λ _ _. may) n (here.interrupted n)
interrupted_within l own st me (TakeInterrupt found) may here n =
    put_keeps (λ m b. b ≡ true → m < l.callers) st.interrupted me.0 false (λ _ e. absurd cc) n (here.interrupted n)
interrupted_within l own st me act may here n = here.interrupted n

selectors_within : (l : Limits) (own : List Act) (st : State) (me : CallerNo) (act : Act) → Condition l own st me act
    → IsWithin l st
    → (s : ℕ) → (effect st me act).selector s ≡ true → s < l.selectors
selectors_within l own st me (MakeSelector k found) may here s =
    put_keeps (λ m b. b ≡ true → m < l.selectors) st.selector k.0 true (λ _ _. may) s (here.selectors s)
selectors_within l own st me act may here s = here.selectors s

channels_within : (l : Limits) (own : List Act) (st : State) (me : CallerNo) (act : Act) → Condition l own st me act
    → Answers st me act → IsWithin l st
    → (c : ℕ) → ((effect st me act).chan c).made ≡ true → c < l.channels
channels_within l own st me act may answers here c =
    channels_keep (Condition l own st me) st me (λ m x. x.made ≡ true → m < l.channels) (record {
      made = λ k kind may' _ _ _. may'.0;
      mode = λ k blocking found _ old. old;
      closed = λ k from found _ _ old. old;
      reopened = λ k may' _ _. may'.0;
    }) act may answers c (here.channels c)

-- a number's next serial is up to the last
channel_serials_within : (l : Limits) (own : List Act) (st : State) (me : CallerNo) (act : Act)
    → Condition l own st me act → Answers st me act → IsWithin l st
    → (c : ℕ) → ((effect st me act).chan c).serial ≤ last_serial
channel_serials_within l own st me act may answers here c =
    channels_keep (Condition l own st me) st me (λ _ x. x.serial ≤ last_serial) (record {
      made = λ k kind _ _ _. omega arith;
      mode = λ k blocking found _ old. old;
      closed = λ k from found _ _ old. old;
      reopened = λ k may' _. let below : (st.chan k.0).serial < last_serial = may'.4 in omega arith;
    }) act may answers c (here.channel_serials c)

channels_high_within : (l : Limits) (own : List Act) (st : State) (me : CallerNo) (act : Act)
    → Condition l own st me act → IsWithin l st
    → (effect st me act).channels_high ≤ l.channels
channels_high_within l own st me (RaiseChannels n found) may here =
    let before : st.channels_high ≤ l.channels = here.channels_high in
    let new : n ≤ l.channels = may.0 in
    omega arith
channels_high_within l own st me act may here = here.channels_high

keys_high_within : (l : Limits) (own : List Act) (st : State) (me : CallerNo) (act : Act) → Condition l own st me act
    → IsWithin l st
    → (s : ℕ) → (effect st me act).keys_high s ≤ l.keys
keys_high_within l own st me (RaiseKeys k n found) may here s =
    let new : n ≤ l.keys = may.1 in
    put_keeps (λ _ m. m ≤ l.keys) st.keys_high k.0 (max (st.keys_high k.0) n) (λ before. omega arith) s
    (here.keys_high s)
keys_high_within l own st me act may here s = here.keys_high s

-- an index, its selector and its channel are within the limits where it is claimed
abbrev KeyWithin : Limits → ℕ → ℕ → Stage → Type 0
KeyWithin l s i k = k.claimed ≡ true → (s < l.selectors) × (i < l.keys) × IsChannel l k.chan

keys_within : (l : Limits) (own : List Act) (st : State) (me : CallerNo) (act : Act) → Condition l own st me act
    → IsWithin l st
    → (s i : ℕ) → KeyWithin l s i ((effect st me act).key s i)
keys_within l own st me act may here s i = by_act act may
  where
    kept : (s' : SelNo) (i' : ℕ) (x : Stage) → (KeyWithin l s'.0 i' (st.key s'.0 i') → KeyWithin l s'.0 i' x)
        → KeyWithin l s i (put_at st.key s'.0 i' x s i)
    kept s' i' x new = put_at_keeps (KeyWithin l) st.key s'.0 i' x new s i (here.keys s i)

    by_act : (act' : Act) → Condition l own st me act' → KeyWithin l s i ((effect st me act').key s i)
    by_act (CancelKey s' i' found) may' = kept s' i' _ (λ old. old)
    by_act (Claim s' i' c true) may' = kept s' i' _ (λ old. old)
    by_act (Claim s' i' c false) may' = kept s' i' (new_key c 0) (λ _ _. (may'.0.0, may'.0.1, may'.1))
    by_act (Publish s' i' found) may' = kept s' i' _ (λ old. old)
    by_act (Remove s' i' found) may' = kept s' i' _ (λ old. old)
    by_act (ClaimAgain s' i' c from true) may' = kept s' i' _ (λ old. old)
    by_act (ClaimAgain s' i' c from false) may' = kept s' i' (new_key c _) (λ _ _. (may'.0.0, may'.0.1, may'.1))
    by_act act' may' = here.keys s i

-- a serial that is given again is below the last
serials_within : (l : Limits) (own : List Act) (st : State) (me : CallerNo) (act : Act) → Condition l own st me act
    → Answers st me act → IsSound st → IsWithin l st
    → (s i : ℕ) → ((effect st me act).key s i).serial ≤ last_serial
serials_within l own st me act may answers sound here s i = stages_keep (Condition l own st me) st me
    (λ _ _ k. k.serial ≤ last_serial) (record {
      claimed = λ s' i' c _ _. omega arith;
      published = λ s' i' found _ old. old;
      cancelled = λ s' i' found _ old. old;
      removed = λ s' i' found _ old. old;
      again = λ s' i' c from may' _ _.
          let back = back_parts (st.key s'.0 i') (sound.taken_back s'.0 i' (held_some me (st.taker s'.0 i') may'.3)) in
          let below : (st.key s'.0 i').serial < last_serial = ltb-true _ _ back.below_last in
          omega arith;
    }) act may answers s i (here.serials s i)

-- who has what `me` tried to take is within the limits
taken_within : (l : Limits) (me : CallerNo) (o : Option CallerNo) → IsCaller l me → ForSome o (IsCaller l)
    → ForSome (taken_by me o) (IsCaller l)
taken_within l me None own_number old = λ x e. let same : me ≡ x = cc in subst (IsCaller l) same own_number
taken_within l me (Some n) own_number old = old

none_within : (l : Limits) → ForSome None (IsCaller l)
none_within l = λ x e. absurd cc

some_within : (l : Limits) (me : CallerNo) → IsCaller l me → ForSome (Some me) (IsCaller l)
some_within l me own_number = λ x e. let same : me ≡ x = cc in subst (IsCaller l) same own_number

holds_within : (l : Limits) (st : State) (me : CallerNo) (act : Act) → IsCaller l me → Answers st me act → IsWithin l st
    → (c : ℕ) → ForSome ((effect st me act).hold c) (IsCaller l)
holds_within l st me (TryHoldBit k found) own_number answers here c =
    put_keeps (λ _ o. ForSome o (IsCaller l)) st.hold k.0 (taken_by me found)
    (λ old. let found_is : found ≡ st.hold k.0 = cc in
    taken_within l me found own_number (subst (λ o. ForSome o (IsCaller l)) (sym found_is) old)) c (here.holds c)
holds_within l st me (Release k) own_number answers here c =
    put_keeps (λ _ o. ForSome o (IsCaller l)) st.hold k.0 None (λ _. none_within l) c (here.holds c)
holds_within l st me act own_number answers here c = here.holds c

turns_within : (l : Limits) (st : State) (me : CallerNo) (act : Act) → IsCaller l me → Answers st me act → IsWithin l st
    → (s : ℕ) → ForSome ((effect st me act).turn s) (IsCaller l)
turns_within l st me (TakeTurn k found) own_number answers here s =
    put_keeps (λ _ o. ForSome o (IsCaller l)) st.turn k.0 (taken_by me found)
    (λ old. let found_is : found ≡ st.turn k.0 = cc in
    taken_within l me found own_number (subst (λ o. ForSome o (IsCaller l)) (sym found_is) old)) s (here.turns s)
turns_within l st me (GiveTurn k) own_number answers here s =
    put_keeps (λ _ o. ForSome o (IsCaller l)) st.turn k.0 None (λ _. none_within l) s (here.turns s)
turns_within l st me act own_number answers here s = here.turns s

closers_within : (l : Limits) (st : State) (me : CallerNo) (act : Act) → IsCaller l me → IsWithin l st
    → (s : ℕ) → ForSome ((effect st me act).closer s) (IsCaller l)
closers_within l st me (ShutBit k true) own_number here s =
    put_keeps (λ _ o. ForSome o (IsCaller l)) st.closer k.0 (st.closer k.0) (λ old. old) s (here.closers s)
closers_within l st me (ShutBit k false) own_number here s =
    put_keeps (λ _ o. ForSome o (IsCaller l)) st.closer k.0 (Some me) (λ _. some_within l me own_number) s
    (here.closers s)
closers_within l st me act own_number here s = here.closers s

abbrev serial_of : Option OwnClaim → ℕ
serial_of None = 0
serial_of (Some claim) = claim.serial

-- a step by which a caller claims an index gives it a serial up to the last
claim_within : (l : Limits) (own : List Act) (st : State) (me : CallerNo) (act : Act) (s i : ℕ) (claim : OwnClaim)
    → Condition l own st me act
    → claim_changed s i act ≡ Some (Some claim) → claim.serial ≤ last_serial
claim_within l own st me (Claim s' i' c false) s i claim may changed =
    let serial_is : 0 ≡ claim.serial = ap serial_of (if_some ((s'.0 == s) && (i' == i)) _ _ changed).1 in
    omega arith
claim_within l own st me (ClaimAgain s' i' c from false) s i claim may changed =
    let serial_is : suc from.serial ≡ claim.serial = ap serial_of (if_some ((s'.0 == s) && (i' == i)) _ _ changed).1 in
    let below : from.serial < last_serial = may.5 in
    omega arith
claim_within l own st me (Unpin s' i') s i claim may changed =
    let clash : None ≡ Some claim = (if_some ((s'.0 == s) && (i' == i)) _ _ changed).1 in
    absurd cc
claim_within l own st me act s i claim may changed = absurd (cc changed)

-- the serial of a caller's claim is at most the last
claims_within : (l : Limits) (n : CallerNo) (events : List Event) (s i : ℕ) (claim : OwnClaim) → IsLegal l events
    → own_claim s i (mine n events) ≡ Some claim → claim.serial ≤ last_serial
claims_within l n events s i claim legal = claim_told l n s i (λ claim' _. claim'.serial ≤ last_serial)
    (λ past e claim' legal' step by changed. claim_within l (mine e.caller past)
    (state_after past) e.caller e.act s i claim' step.condition changed)
    (λ past e claim' legal' step spared here. here)
    events legal claim

enrolled_within : (l : Limits) (past : List Event) (me : CallerNo) (act : Act) → IsLegal l past
    → Condition l (mine me past) (state_after past) me act → IsWithin l (state_after past)
    → (c s : ℕ)
    → ForSome ((effect (state_after past) me act).enrolled c s) (λ k. (k.index < l.keys) × (k.serial ≤ last_serial))
enrolled_within l past me (Enrol c' s' i serial found) legal may here c s =
    put_at_keeps (λ _ _ o. ForSome o (λ k. (k.index < l.keys) × (k.serial ≤ last_serial)))
    (state_after past).enrolled c'.0 s'.0 _
    (λ _ x e.
    let index_is : i ≡ x.index = cc in
    let serial_is : serial ≡ x.serial = cc in (
      subst (λ (k : ℕ). k < l.keys) index_is may.1.1,
      subst (λ (k : ℕ). k ≤ last_serial) serial_is
          (claims_within l me past s'.0 i _ legal may.2),
    ))
    c s (here.enrolled c s)
enrolled_within l past me act legal may here c s = here.enrolled c s

pins_within : (l : Limits) (st : State) (me : CallerNo) (act : Act) → IsCaller l me → IsWithin l st
    → (s i n : ℕ) → (effect st me act).pinned s i n ≡ true → n < l.callers
pins_within l st me (Claim s' i' c found) own_number here s i n =
    put_pin_keeps (λ _ _ m x. x ≡ true → m < l.callers) st.pinned s'.0 i' me.0 _ (λ _ _. own_number) s i n
    (here.pins s i n)
pins_within l st me (ClaimAgain s' i' c from found) own_number here s i n =
    put_pin_keeps (λ _ _ m x. x ≡ true → m < l.callers) st.pinned s'.0 i' me.0 _ (λ _ _. own_number) s i n
    (here.pins s i n)
pins_within l st me (Pin s' i' found) own_number here s i n =
    put_pin_keeps (λ _ _ m x. x ≡ true → m < l.callers) st.pinned s'.0 i' me.0 true (λ _ _. own_number) s i n
    (here.pins s i n)
pins_within l st me (Unpin s' i') own_number here s i n =
    put_pin_keeps (λ _ _ m x. x ≡ true → m < l.callers) st.pinned s'.0 i' me.0 false (λ _ _. own_number) s i n
    (here.pins s i n)
pins_within l st me act own_number here s i n = here.pins s i n

takers_within : (l : Limits) (st : State) (me : CallerNo) (act : Act) → IsCaller l me → IsWithin l st
    → (s i : ℕ) → ForSome ((effect st me act).taker s i) (IsCaller l)
takers_within l st me (TakeFree s' i' true) own_number here s i =
    put_at_keeps (λ _ _ o. ForSome o (IsCaller l)) st.taker s'.0 i' (Some me) (λ _. some_within l me own_number) s i
    (here.takers s i)
takers_within l st me (TakeFree s' i' false) own_number here s i =
    put_at_keeps (λ _ _ o. ForSome o (IsCaller l)) st.taker s'.0 i' (st.taker s'.0 i') (λ old. old) s i
    (here.takers s i)
takers_within l st me (PutFree s' i') own_number here s i =
    put_at_keeps (λ _ _ o. ForSome o (IsCaller l)) st.taker s'.0 i' None (λ _. none_within l) s i (here.takers s i)
takers_within l st me (ClaimAgain s' i' c from true) own_number here s i =
    put_at_keeps (λ _ _ o. ForSome o (IsCaller l)) st.taker s'.0 i' (st.taker s'.0 i') (λ old. old) s i
    (here.takers s i)
takers_within l st me (ClaimAgain s' i' c from false) own_number here s i =
    put_at_keeps (λ _ _ o. ForSome o (IsCaller l)) st.taker s'.0 i' None (λ _. none_within l) s i (here.takers s i)
takers_within l st me act own_number here s i = here.takers s i

touched_within : (l : Limits) (own : List Act) (st : State) (me : CallerNo) (act : Act) → Condition l own st me act
    → IsWithin l st
    → (s i : ℕ) → (effect st me act).touched s i ≡ true → (s < l.selectors) × (i < l.keys)
touched_within l own st me (Touch s' i' found) may here s i =
    put_at_keeps (λ a b x. x ≡ true → (a < l.selectors) × (b < l.keys)) st.touched s'.0 i' true (λ _ _. may.0) s i
    (here.touched s i)
touched_within l own st me (TakeTouched s' j found) may here s i = by_test ((s == s'.0) && (i / 64 == j))
  where
    by_test : (b : Bool) → cond b false (st.touched s i) ≡ true → (s < l.selectors) × (i < l.keys)
    by_test true e = absurd cc
    by_test false e = here.touched s i e
touched_within l own st me act may here s i = here.touched s i

listers_within : (l : Limits) (st : State) (me : CallerNo) (act : Act) → IsCaller l me → Answers st me act
    → IsWithin l st
    → (s : ℕ) → ForSome ((effect st me act).lister s) (IsCaller l)
listers_within l st me (TakeList k found) own_number answers here s =
    put_keeps (λ _ o. ForSome o (IsCaller l)) st.lister k.0 (taken_by me found)
    (λ old. let found_is : found ≡ st.lister k.0 = cc in
    taken_within l me found own_number (subst (λ o. ForSome o (IsCaller l)) (sym found_is) old)) s (here.listers s)
listers_within l st me act own_number answers here s = here.listers s

within_opening : (l : Limits) → IsWithin l opening
within_opening l = record {
  drawn = λ n e. absurd cc;
  interrupted = λ n e. absurd cc;
  selectors = λ s e. absurd cc;
  channels = λ c e. absurd cc;
  channels_high = omega arith;
  keys_high = λ s. omega arith;
  keys = λ s i e. absurd cc;
  holds = λ c. none_within l;
  turns = λ s. none_within l;
  closers = λ s. none_within l;
  enrolled = λ c s x e. absurd cc;
  serials = λ s i. omega arith;
  channel_serials = λ c. omega arith;
  pins = λ s i n e. absurd cc;
  takers = λ s i. none_within l;
  touched = λ s i e. absurd cc;
  listers = λ s. none_within l;
}

within_step : (l : Limits) (past : List Event) (e : Event) → IsLegal l past → IsStep l past e
    → IsWithin l (state_after past) → IsWithin l (effect (state_after past) e.caller e.act)
within_step l past e legal step here = record {
  drawn = drawn_within l (mine e.caller past) (state_after past) e.caller e.act step.condition here;
  interrupted = interrupted_within l (mine e.caller past) (state_after past) e.caller e.act step.condition here;
  selectors = selectors_within l (mine e.caller past) (state_after past) e.caller e.act step.condition here;
  channels = channels_within l (mine e.caller past) (state_after past) e.caller e.act step.condition step.answers here;
  channels_high = channels_high_within l (mine e.caller past) (state_after past) e.caller e.act step.condition here;
  keys_high = keys_high_within l (mine e.caller past) (state_after past) e.caller e.act step.condition here;
  keys = keys_within l (mine e.caller past) (state_after past) e.caller e.act step.condition here;
  holds = holds_within l (state_after past) e.caller e.act step.by_caller step.answers here;
  turns = turns_within l (state_after past) e.caller e.act step.by_caller step.answers here;
  closers = closers_within l (state_after past) e.caller e.act step.by_caller here;
  enrolled = enrolled_within l past e.caller e.act legal step.condition here;
  serials = serials_within l (mine e.caller past) (state_after past) e.caller e.act step.condition step.answers
      (legal-sound l past legal) here;
  channel_serials = channel_serials_within l (mine e.caller past) (state_after past) e.caller e.act step.condition
      step.answers here;
  pins = pins_within l (state_after past) e.caller e.act step.by_caller here;
  takers = takers_within l (state_after past) e.caller e.act step.by_caller here;
  touched = touched_within l (mine e.caller past) (state_after past) e.caller e.act step.condition here;
  listers = listers_within l (state_after past) e.caller e.act step.by_caller step.answers here;
}

pub legal-within : (l : Limits) (events : List Event) → IsLegal l events → IsWithin l (state_after events)
legal-within l = legal_induction l (λ events. IsWithin l (state_after events)) (within_opening l)
    (λ past e legal step here. subst (IsWithin l) (sym (state_after-more past e))
    (within_step l past e legal step here))
