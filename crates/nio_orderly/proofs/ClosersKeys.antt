-- Whoever closes a channel cancels keys of that channel alone.
use Rattle.std.proofs.Common.{◌≡◌, ℕ, ◌==◌, ◌≤◌, suc, Bool, true, false, not, ◌&&◌, ◌||◌, inl, inr, ◌⊎◌, Some, None}
use Rattle.std.proofs.Common.{if◌then◌else◌, Option, List, [], ◌∷◌, ◌++◌, append_assoc, refl, ap, sym, ◌∙◌, subst}
use Rattle.std.proofs.Common.{eqb-true, eq-eqb, nat_lt, arith}
use Rattle.std.specs.Option.{option_or}
use Rattle.std.proofs.lemmas.Bool.{and_parts, and_from, or_from, or_parts, not-true, not-false, ltb-false, ltb-true}
use Rattle.std.proofs.lemmas.List.{append-nil}
use Rattle.nio_base.specs.Limits.{IsFit}
use Rattle.nio_base.specs.declared.limits.Limits.{Limits}
use Rattle.nio_base.specs.declared.numbers.CallerNo.{CallerNo}
use Rattle.nio_base.specs.declared.numbers.ChanId.{ChanId}
use Rattle.nio_base.specs.declared.numbers.ChanNo.{ChanNo}
use Rattle.nio_base.specs.declared.numbers.KeyId.{KeyId}
use Rattle.nio_base.specs.declared.numbers.SelNo.{SelNo}
use Rattle.nio_history.proofs.Holder.{HeldSince, held_since}
use Rattle.nio_history.proofs.Holds.{channel_stays}
use Rattle.nio_history.proofs.KeyChanges.{stages_keep}
use Rattle.nio_history.proofs.LastsAlone.{had_stands, same_two}
use Rattle.nio_history.proofs.LastsOnceSound.{permanent_stands}
use Rattle.nio_history.proofs.Legal.{legal_beginning, legal_next, legal_from}
use Rattle.nio_history.proofs.OneMore.{state_after-more, mine-append, mine-own, last-more, has_none-append}
use Rattle.nio_history.proofs.OwnPins.{pins_are_own}
use Rattle.nio_history.proofs.PinLaws.{IsKeyOf, key_of_keeps, enrolled_keys_are_claimed, claims_again_the_removed}
use Rattle.nio_history.proofs.PinLaws.{own_claims_stand, pinned_keys_stay}
use Rattle.nio_history.proofs.Put.{put_at-same}
use Rattle.nio_history.proofs.Soundness.{legal-sound, both_ways}
use Rattle.nio_history.specs.Acts.{effect}
use Rattle.nio_history.specs.Answers.{Answers}
use Rattle.nio_history.specs.Conditions.{Condition, is_held_by, has_pin}
use Rattle.nio_history.specs.Histories.{state_after, mine, event_of, IsStep, IsLegal}
use Rattle.nio_history.specs.OwnEvents.{OwnClaim, has, is_yes, last, under, releases, reopens, sets_mode, own_claim}
use Rattle.nio_history.specs.OwnEvents.{unpins, since_first, keeps_pin, pin_changed}
use Rattle.nio_history.specs.Permanent.{key_claimed, channel_opened, the_hold}
use Rattle.nio_history.specs.Pins.{IsOfClaim}
use Rattle.nio_history.specs.Questions.{Question, question_of, answer_of}
use Rattle.nio_history.specs.Sets.{fits, in_key_set, is_in_key_set, was_claimed, fits_channel}
use Rattle.nio_history.specs.State.{State}
use Rattle.nio_history.specs.declared.act.Act.{Act}
use Rattle.nio_history.specs.declared.act.Act.TheVariants.{CancelKey, LookChannel, Claim, ClaimAgain, Publish, LookReg}
use Rattle.nio_history.specs.declared.act.Act.TheVariants.{CloseBit, Pin, Reopen, Touch}
use Rattle.nio_history.specs.declared.event.Event.{Event}
use Rattle.nio_history.specs.declared.found.Chan.{Chan}
use Rattle.nio_history.specs.declared.found.Stage.{Stage}
use Rattle.nio_orderly.proofs.CallLists.{Earlier, Further, cut_twice, beginnings_are_orderly}
use Rattle.nio_orderly.proofs.ClosingsKept.{fails_to_close, AreBeforeClosing, closing-always}
use Rattle.nio_orderly.proofs.Kept.{PublishKept, claims_key}
use Rattle.nio_orderly.proofs.KeysStand.{set_fits, same_channel_step}
use Rattle.nio_orderly.proofs.ListWords.{InFirst, InSecond, split_at, one_such, no_such_act}
use Rattle.nio_orderly.proofs.OrderlyCare.{Opened, first_opened, made_is_kept, orderly_is_careful}
use Rattle.nio_orderly.proofs.Published.{MayClaim, may_claim}
use Rattle.nio_orderly.proofs.Reopening.{keeps_since}
use Rattle.nio_orderly.specs.Careful.{until_released}
use Rattle.nio_orderly.specs.Orderly.{IsOrderly}
use Rattle.nio_orderly.specs.Owed.{channel_of_key}
use Rattle.nio_orderly.specs.Reopening.{ClosersCancelTheirOwn}
use Rattle.nio_steps.proofs.OwnActs.{Cut, cut_at}
use Rattle.nio_steps.proofs.SelectionLaws.{none_of-append}
use Rattle.nio_steps.proofs.Walks.{Always, always_weaker, always_bind, always_if, always_sweep, always_run}
use Rattle.nio_steps.specs.ChannelCalls.{cancel_at, cancel_enrolled, cancel_keys, close_channel_plan}
use Rattle.nio_steps.specs.KeyCalls.{cancel_pinned, cancel_plan}
use Rattle.nio_steps.specs.Names.{selector, channel_of, key}
use Rattle.nio_steps.specs.Plan.{Plan, reply, ◌>>=◌, ◌>>◌}
use Rattle.nio_steps.specs.Runs.{Completes}
use Rattle.nio_steps.specs.Steps.{flag_in, stage_in, channel_in, enrolled_in, unpin}
use Rattle.nio_steps.specs.Sweeps.{sweep_to}

-- ---- what a closing did before it cancels a key

-- It found the key enrolled, then the channel, and then the key as it put its pin on the index, which it touched then.
record Seen (c : ChanId) (s : SelNo) (i : ℕ) (before : List Act) : Type 0 where
  first : List Act
  k : KeyId
  looked : Chan
  pinned : Stage
  touched : Bool
  parts : before ≡ first ++ LookReg c.number s (Some k) ∷ LookChannel c.number looked ∷ Pin s k.index pinned
      ∷ Touch s k.index touched ∷ []
  index : k.index ≡ i
  present : fits_channel looked c.serial ≡ true
  its_key : fits pinned k.serial ≡ true

abbrev CancelsSeen : ChanId → List Act → Type 0
CancelsSeen c acts =
    (before : List Act) (s : SelNo) (i : ℕ) (found : Stage) (later : List Act)
    → acts ≡ before ++ CancelKey s i found ∷ later → Seen c s i before

abbrev cancels_any : Act → Bool
cancels_any (CancelKey s i found) = true
cancels_any _ = false

seen-none : (c : ChanId) (acts : List Act) → has cancels_any acts ≡ false → CancelsSeen c acts
seen-none c acts none = λ before s i found later parts.
    absurd (no_such_act cancels_any before (CancelKey s i found) later (ap (has cancels_any) (sym parts) ∙ none) refl)

seen-append : (c : ChanId) (xs ys : List Act) → CancelsSeen c xs → CancelsSeen c ys → CancelsSeen c (xs ++ ys)
seen-append c xs ys first second = λ before s i found later parts.
    by_part before s i found later (split_at xs ys before (CancelKey s i found) later parts)
  where
    by_part : (before : List Act) (s : SelNo) (i : ℕ) (found : Stage) (later : List Act)
        → InFirst xs ys before (CancelKey s i found) later ⊎ InSecond xs ys before (CancelKey s i found) later
        → Seen c s i before
    by_part before s i found later (inl there) = first before s i found there.rest there.parts
    by_part before s i found later (inr there) =
        let seen = second there.start s i found later there.parts in
        record {
          first = xs ++ seen.first;
          k = seen.k;
          looked = seen.looked;
          pinned = seen.pinned;
          touched = seen.touched;
          parts = there.before_is ∙ (ap (λ zs. xs ++ zs) seen.parts
              ∙ sym (append_assoc xs seen.first
              (LookReg c.number s (Some seen.k) ∷ LookChannel c.number seen.looked
              ∷ Pin s seen.k.index seen.pinned ∷ Touch s seen.k.index seen.touched ∷ [])));
          index = seen.index;
          present = seen.present;
          its_key = seen.its_key;
        }

-- a question that cancels no key
abbrev cancels_none : Question → Bool
cancels_none (Question.cancel_key s i) = false
cancels_none _ = true

none-cancelled : (act : Act) → cancels_none (question_of act) ≡ true → cancels_any act ≡ false
none-cancelled (CancelKey s i found) is = absurd (cc is)
none-cancelled _ is = refl

none-one : (act : Act) → cancels_none (question_of act) ≡ true → has cancels_any (act ∷ []) ≡ false
none-one act is = ap (λ b. b || false) (none-cancelled act is)

-- the acts of one turn of the sweep: a look for the enrolled key, a look at the channel, and the cancelling
is_look_reg : (c : ChanNo) (s : SelNo) (k : KeyId) (act : Act) → question_of act ≡ Question.look_reg c s
    → enrolled_in (answer_of act) ≡ Some k → act ≡ LookReg c s (Some k)
is_look_reg c s k (LookReg c' s' found) asks told =
    let first : c' ≡ c = cc asks in
    let second : s' ≡ s = cc asks in
    ap (λ (x : ChanNo). LookReg x s' found) first
    ∙ (ap (λ (x : SelNo). LookReg c x found) second ∙ ap (λ (o : Option KeyId). LookReg c s o) told)
is_look_reg c s k _ asks told = absurd (cc asks)

is_look_channel : (c : ChanNo) (act : Act) → question_of act ≡ Question.look_channel c
    → act ≡ LookChannel c (channel_in (answer_of act))
is_look_channel c (LookChannel c' found) asks =
    let first : c' ≡ c = cc asks in
    ap (λ (x : ChanNo). LookChannel x found) first
is_look_channel c _ asks = absurd (cc asks)

is_pin : (s : SelNo) (i : ℕ) (act : Act) → question_of act ≡ Question.pin s i
    → act ≡ Pin s i (stage_in (answer_of act))
is_pin s i (Pin s' i' found) asks =
    let first : s' ≡ s = cc asks in
    let second : i' ≡ i = cc asks in
    ap (λ (x : SelNo). Pin x i' found) first ∙ ap (λ (x : ℕ). Pin s x found) second
is_pin s i _ asks = absurd (cc asks)

is_touch : (s : SelNo) (i : ℕ) (act : Act) → question_of act ≡ Question.touch s i
    → act ≡ Touch s i (flag_in (answer_of act))
is_touch s i (Touch s' i' found) asks =
    let first : s' ≡ s = cc asks in
    let second : i' ≡ i = cc asks in
    ap (λ (x : SelNo). Touch x i' found) first ∙ ap (λ (x : ℕ). Touch s x found) second
is_touch s i _ asks = absurd (cc asks)

record IsCancel (s : SelNo) (i : ℕ) (act : Act) : Type 0 where
  found : Stage
  is : act ≡ CancelKey s i found

is_cancel : (s : SelNo) (i : ℕ) (act : Act) → question_of act ≡ Question.cancel_key s i → IsCancel s i act
is_cancel s i (CancelKey s' i' found) asks =
    let first : s' ≡ s = cc asks in
    let second : i' ≡ i = cc asks in
    record {
      found = found;
      is = ap (λ (x : SelNo). CancelKey x i' found) first ∙ ap (λ (x : ℕ). CancelKey s x found) second;
    }
is_cancel s i _ asks = absurd (cc asks)

abbrev nothing_more : Plan (Unit {0})
nothing_more = reply tt

seen-enrolled : (c : ChanId) (s : ℕ) → Always (λ acts _. CancelsSeen c acts) (cancel_enrolled c s)
unfolding cancel_plan
seen-enrolled c s = λ look asks. by_enrolled look asks (enrolled_in (answer_of look)) refl
  where
    by_enrolled : (look : Act) → question_of look ≡ Question.look_reg c.number (selector s)
        → (o : Option KeyId) → enrolled_in (answer_of look) ≡ o
        → Always (λ acts _. CancelsSeen c (look ∷ acts)) (cancel_at c (selector s) o)
    by_enrolled look asks None told = seen-none c (look ∷ []) (none-one look (ap cancels_none asks))
    by_enrolled look asks (Some k) told = λ again asks'.
        always_if (λ acts _. CancelsSeen c (look ∷ again ∷ acts))
        (fits_channel (channel_in (answer_of again)) c.serial)
        (cancel_plan (key (selector s) k) >> nothing_more) nothing_more
        (λ present pinned asks''. by_pinned again asks' present pinned asks''
        (fits (stage_in (answer_of pinned)) k.serial && not (stage_in (answer_of pinned)).removed) refl)
        (λ _. seen-none c (look ∷ again ∷ []) (two again asks'))
      where
        two : (again : Act) → question_of again ≡ Question.look_channel c.number
            → has cancels_any (look ∷ again ∷ []) ≡ false
        two again asks' = none_of-append cancels_any (look ∷ []) (again ∷ []) (none-one look (ap cancels_none asks))
            (none-one again (ap cancels_none asks'))

        three : (again : Act) → question_of again ≡ Question.look_channel c.number
            → (pinned : Act) → question_of pinned ≡ Question.pin (selector s) k.index
            → has cancels_any (look ∷ again ∷ pinned ∷ []) ≡ false
        three again asks' pinned asks'' =
            none_of-append cancels_any (look ∷ again ∷ []) (pinned ∷ []) (two again asks')
            (none-one pinned (ap cancels_none asks''))

        four : (again : Act) → question_of again ≡ Question.look_channel c.number
            → (pinned : Act) → question_of pinned ≡ Question.pin (selector s) k.index
            → (touching : Act) → question_of touching ≡ Question.touch (selector s) k.index
            → has cancels_any (look ∷ again ∷ pinned ∷ touching ∷ []) ≡ false
        four again asks' pinned asks'' touching its =
            none_of-append cancels_any (look ∷ again ∷ pinned ∷ []) (touching ∷ []) (three again asks' pinned asks'')
            (none-one touching (ap cancels_none its))

        seen : (again : Act) → question_of again ≡ Question.look_channel c.number
            → fits_channel (channel_in (answer_of again)) c.serial ≡ true
            → (pinned : Act) → question_of pinned ≡ Question.pin (selector s) k.index
            → fits (stage_in (answer_of pinned)) k.serial ≡ true
            → (touching : Act) → question_of touching ≡ Question.touch (selector s) k.index
            → Seen c (selector s) k.index (look ∷ again ∷ pinned ∷ touching ∷ [])
        seen again asks' present pinned asks'' its_key touching its = record {
          first = [];
          k = k;
          looked = channel_in (answer_of again);
          pinned = stage_in (answer_of pinned);
          touched = flag_in (answer_of touching);
          parts = ap (λ (x : Act). x ∷ again ∷ pinned ∷ touching ∷ [])
              (is_look_reg c.number (selector s) k look asks told)
              ∙ (ap (λ (x : Act). LookReg c.number (selector s) (Some k) ∷ x ∷ pinned ∷ touching ∷ [])
              (is_look_channel c.number again asks')
              ∙ (ap (λ (x : Act). LookReg c.number (selector s) (Some k)
              ∷ LookChannel c.number (channel_in (answer_of again)) ∷ x ∷ touching ∷ [])
              (is_pin (selector s) k.index pinned asks'')
              ∙ ap (λ (x : Act). LookReg c.number (selector s) (Some k)
              ∷ LookChannel c.number (channel_in (answer_of again))
              ∷ Pin (selector s) k.index (stage_in (answer_of pinned)) ∷ x ∷ [])
              (is_touch (selector s) k.index touching its)));
          index = refl;
          present = present;
          its_key = its_key;
        }

        by_pinned : (again : Act) → question_of again ≡ Question.look_channel c.number
            → fits_channel (channel_in (answer_of again)) c.serial ≡ true
            → (pinned : Act) → question_of pinned ≡ Question.pin (selector s) k.index
            → (b : Bool)
            → (fits (stage_in (answer_of pinned)) k.serial && not (stage_in (answer_of pinned)).removed) ≡ b
            → Always (λ acts _. CancelsSeen c (look ∷ again ∷ pinned ∷ acts))
            (((if b then (cancel_pinned (selector s) k.index >> nothing_more) else nothing_more)
            >>= λ answer. (unpin (selector s) k.index >> reply answer))
            >>= λ _. nothing_more)
        by_pinned again asks' present pinned asks'' true is =
            λ touching touches cancel its unpinned its' before t i found later parts.
            let cancelling = is_cancel (selector s) k.index cancel its in
            let same = one_such cancels_any (look ∷ again ∷ pinned ∷ touching ∷ []) (unpinned ∷ []) before later cancel
            (CancelKey t i found) (four again asks' pinned asks'' touching touches)
            (none-one unpinned (ap cancels_none its')) refl parts in
            let both : CancelKey (selector s) k.index cancelling.found ≡ CancelKey t i found = sym cancelling.is
            ∙ same.1 in
            let first : selector s ≡ t = cc both in
            let second : k.index ≡ i = cc both in
            subst (λ xs. Seen c t i xs) same.0
            (subst (λ (x : SelNo). Seen c x i (look ∷ again ∷ pinned ∷ touching ∷ [])) first
            (subst (λ (x : ℕ). Seen c (selector s) x (look ∷ again ∷ pinned ∷ touching ∷ [])) second
            (seen again asks' present pinned asks'' (and_parts (fits (stage_in (answer_of pinned)) k.serial)
            (not (stage_in (answer_of pinned)).removed) is).0 touching touches)))
        by_pinned again asks' present pinned asks'' false is = λ unpinned its.
            seen-none c (look ∷ again ∷ pinned ∷ unpinned ∷ [])
            (none_of-append cancels_any (look ∷ again ∷ pinned ∷ []) (unpinned ∷ [])
            (three again asks' pinned asks'') (none-one unpinned (ap cancels_none its)))

seen-keys : (l : Limits) (c : ChanId) → Always (λ acts _. CancelsSeen c acts) (cancel_keys l c)
seen-keys l c =
    always_bind (λ acts _. CancelsSeen c acts) (λ acts _. CancelsSeen c acts)
    (sweep_to l.selectors 0 (λ s _. cancel_enrolled c s) tt) (λ _. reply true)
    (always_sweep (λ s acts _. CancelsSeen c acts) l.selectors 0 (λ s _. cancel_enrolled c s) tt (omega arith)
    (seen-none c [] refl)
    (λ s ys _ low high before. always_weaker (λ acts _. CancelsSeen c acts) (λ acts _. CancelsSeen c (ys ++ acts))
    (cancel_enrolled c s) (λ acts _ turn. seen-append c ys acts before turn) (seen-enrolled c s)))
    (λ acts _ seen. subst (CancelsSeen c) (sym (append-nil acts)) seen)

none_before : (act : Act) → fails_to_close act ≡ true → cancels_any act ≡ false
none_before (CancelKey s i found) is = absurd (cc is)
none_before _ is = refl

all_none : (acts : List Act) → AreBeforeClosing acts → has cancels_any acts ≡ false
all_none [] before = refl
all_none (act ∷ acts) before =
    let both = or_parts (not (fails_to_close act)) (has (λ a. not (fails_to_close a)) acts) before in
    or_from (cancels_any act) (has cancels_any acts) (none_before act (not-false (fails_to_close act) both.0))
    (all_none acts both.1)

closing_seen : (l : Limits) (c : ChanId) (acts : List Act) (answer : Bool)
    → Completes (close_channel_plan l c) acts answer → CancelsSeen c acts
closing_seen l c acts answer run =
    always_run (λ xs _. CancelsSeen c xs) (close_channel_plan l c) acts answer
    (closing-always l c (λ xs _. CancelsSeen c xs) (λ xs before. seen-none c xs (all_none xs before))
    (λ xs from found before serial takes.
    always_weaker (λ more _. CancelsSeen c more) (λ more _. CancelsSeen c (xs ++ CloseBit c.number from found ∷ more))
    (cancel_keys l c)
    (λ more _ seen. seen-append c xs (CloseBit c.number from found ∷ more) (seen-none c xs (all_none xs before))
    (seen-append c (CloseBit c.number from found ∷ []) more
    (seen-none c (CloseBit c.number from found ∷ []) refl) seen)) (seen-keys l c))) run

-- ---- an enrolled key

-- while an index has a key that was enrolled for a channel, it is a key of that
key_of_stays : (l : Limits) (before later : List Event) (c s : ℕ) (k : KeyId) → IsLegal l (before ++ later)
    → IsKeyOf c k.serial ((state_after before).key s k.index)
    → IsKeyOf c k.serial ((state_after (before ++ later)).key s k.index)
key_of_stays l before later c s k legal here =
    legal_from l (λ evs. IsKeyOf c k.serial ((state_after evs).key s k.index))
    (λ past e legal' step earlier. subst (λ st. IsKeyOf c k.serial (st.key s k.index)) (sym (state_after-more past e))
    (stages_keep (λ _. Unit) (state_after past) e.caller (λ _ _ stage. IsKeyOf c k.serial stage)
    (key_of_keeps (λ _. Unit) (state_after past) c k.serial) e.act tt step.answers s k.index earlier))
    before later legal here

-- a claim is of a key that its index never had
claim_is_new : (l : Limits) (n : CallerNo) (past later : List Event) (s i q : ℕ) (act : Act)
    → IsLegal l (past ++ event_of n act ∷ later) → claims_key s i q act ≡ true
    → was_claimed ((state_after past).key s i) q ≡ true → ⊥
claim_is_new l n past later s i q (Claim s' i' c false) legal claims_it had =
    let three = and_parts ((s'.0 == s) && (i' == i)) (q == 0) claims_it in
    let two = and_parts (s'.0 == s) (i' == i) three.0 in
    let answers : Answers (state_after past) n (Claim s' i' c false) =
    (legal_next l past (event_of n (Claim s' i' c false)) later legal).answers in
    let unclaimed : ((state_after past).key s'.0 i').claimed ≡ false = cc answers in
    let here : ((state_after past).key s i).claimed ≡ false =
    subst (λ (t : ℕ). ((state_after past).key t i).claimed ≡ false) (eqb-true s'.0 s two.0)
    (subst (λ (j : ℕ). ((state_after past).key s'.0 j).claimed ≡ false) (eqb-true i' i two.1) unclaimed) in
    both_ways ((state_after past).key s i).claimed
    (and_parts ((state_after past).key s i).claimed (not (nat_lt ((state_after past).key s i).serial q)) had).0 here
claim_is_new l n past later s i q (ClaimAgain s' i' c from false) legal claims_it had =
    let three = and_parts ((s'.0 == s) && (i' == i)) (q == suc from.serial) claims_it in
    let two = and_parts (s'.0 == s) (i' == i) three.0 in
    let is_from : (state_after past).key s'.0 i' ≡ from =
    (claims_again_the_removed l n s' i' c from false past later legal).0 in
    let here : (state_after past).key s i ≡ from =
    subst (λ (t : ℕ). (state_after past).key t i ≡ from) (eqb-true s'.0 s two.0)
    (subst (λ (j : ℕ). (state_after past).key s'.0 j ≡ from) (eqb-true i' i two.1) is_from) in
    let serial : ((state_after past).key s i).serial ≡ from.serial = ap (λ k. k.serial) here in
    let next : q ≡ suc from.serial = eqb-true q (suc from.serial) three.1 in
    let above = ltb-false ((state_after past).key s i).serial q
    (not-true (nat_lt ((state_after past).key s i).serial q)
    (and_parts ((state_after past).key s i).claimed (not (nat_lt ((state_after past).key s i).serial q)) had).1) in
    omega (arith, serial, next, above)
claim_is_new l n past later s i q act legal claims_it had = absurd (cc claims_it)

reopens-sets : (c : ℕ) (act : Act) → sets_mode c act ≡ false → reopens c act ≡ false
reopens-sets c (Reopen c' from false) none = none
reopens-sets c (Reopen c' from true) none = refl
reopens-sets c _ none = refl

none_reopened : (c : ℕ) (acts : List Act) → has (sets_mode c) acts ≡ false → has (reopens c) acts ≡ false
none_reopened c [] none = refl
none_reopened c (act ∷ acts) none =
    let both = or_parts (sets_mode c act) (has (sets_mode c) acts) none in
    or_from (reopens c act) (has (reopens c) acts) (reopens-sets c act both.0) (none_reopened c acts both.1)

-- A registration publishes a key under the hold under which it claimed it. So a number whose key it is has one channel
-- from then on.
record UnderHold (past : List Event) (n : CallerNo) (s i : ℕ) : Type 0 where
  claim : OwnClaim
  its : own_claim s i (mine n past) ≡ Some claim
  claimed_under : has (claims_key s i claim.serial) (under claim.channel.0 (mine n past)) ≡ true
  unset : has (sets_mode claim.channel.0) (under claim.channel.0 (mine n past)) ≡ false

under_hold : (l : Limits) (past : List Event) (e : Event) (s i : ℕ) (found : Stage) → IsOrderly l (past ++ e ∷ [])
    → e.act ≡ Publish (record { 0 = s }) i found → UnderHold past e.caller s i
under_hold l past e s i found orderly is = record {
  claim = kept.claim;
  its = kept.claimed;
  claimed_under = kept.claimed_under;
  unset = (has_none-append (sets_mode kept.claim.channel.0) (under kept.claim.channel.0 (mine e.caller past))
      (until_released kept.claim.channel.0 more) kept.mode).0;
}
  where
    more : List Act
    more = (orderly e.caller).later

    sel : SelNo
    sel = record { 0 = s }

    kept : PublishKept (mine e.caller past) sel i found more
    kept = (made_is_kept l (mine e.caller (past ++ e ∷ []) ++ more) (orderly e.caller).whole).publishes
        (mine e.caller past) sel i found more
        (ap (λ acts. acts ++ more) (mine-own e.caller past e (eq-eqb e.caller.0 e.caller.0 refl)
        ∙ ap (λ act. mine e.caller past ++ act ∷ []) is)
        ∙ append_assoc (mine e.caller past) (Publish sel i found ∷ []) more)

-- a publish of a key that was enrolled before: its channel is the one that its number had then
published_same : (l : Limits) (before : List Event) (c : ChanNo) (s : SelNo) (k : KeyId) → IsFit l
    → (state_after before).enrolled c.0 s.0 ≡ Some k
    → (past : List Event) (e : Event) (did : List Event) → past ≡ before ++ did → IsLegal l past → IsStep l past e
    → IsOrderly l (past ++ e ∷ [])
    → (found : Stage) → e.act ≡ Publish (record { 0 = s.0 }) k.index found → found.serial ≡ k.serial
    → channel_of_key (effect (state_after past) e.caller e.act) s.0 k.index
    ≡ channel_of c ((state_after before).chan c.0).serial
published_same l before c s k fit enrolled past e did whole legal step orderly found is same =
    ap (λ act. channel_of_key (effect st n act) s.0 k.index) is
    ∙ (ap (λ x. channel_of x.chan (st.chan x.chan.0).serial)
    (put_at-same st.key s.0 k.index (record (st.key s.0 k.index) { published = true }))
    ∙ (ap (λ (d : ChanNo). channel_of d (st.chan d.0).serial) its_number
    ∙ ap (channel_of c) same_serial))
  where
    n : CallerNo
    n = e.caller

    st : State
    st = state_after past

    legal_whole : IsLegal l (before ++ did)
    legal_whole = subst (IsLegal l) whole legal

    found_is : found ≡ st.key s.0 k.index
    found_is =
        let answers : Answers st n (Publish (record { 0 = s.0 }) k.index found) =
        subst (Answers st n) is step.answers in
        cc answers

    its_serial : (st.key s.0 k.index).serial ≡ k.serial
    its_serial = ap (λ x. x.serial) (sym found_is) ∙ same

    enrolled_then : (was_claimed ((state_after before).key s.0 k.index) k.serial ≡ true)
        × (((state_after before).key s.0 k.index).serial ≡ k.serial
        → ((state_after before).key s.0 k.index).chan ≡ c)
    enrolled_then = enrolled_keys_are_claimed l c s k before fit (legal_beginning l before did legal_whole) enrolled

    key_now : IsKeyOf c.0 k.serial (st.key s.0 k.index)
    key_now = subst (λ evs. IsKeyOf c.0 k.serial ((state_after evs).key s.0 k.index)) (sym whole)
        (key_of_stays l before did c.0 s.0 k legal_whole
        (enrolled_then.0, λ here. ap (λ (x : ChanNo). x.0) (enrolled_then.1 here)))

    its_number : (st.key s.0 k.index).chan ≡ c
    its_number = ap (λ (m : ℕ). number m) (key_now.1 its_serial)
      where
        number : ℕ → ChanNo
        number m = record { 0 = m }

    held_so : UnderHold past n s.0 k.index
    held_so = under_hold l past e s.0 k.index found orderly is

    may : MayClaim st (mine n past) n (own_claim s.0 k.index (mine n past))
    may = may_claim st (mine n past) n (own_claim s.0 k.index (mine n past))
        (subst (λ act. Condition l (mine n past) st n act) is step.condition).1

    claim_is : may.its_claim ≡ held_so.claim
    claim_is = let both : Some may.its_claim ≡ Some held_so.claim = sym may.is ∙ held_so.its in cc both

    of_claim : IsOfClaim held_so.claim (st.key s.0 k.index)
    of_claim = (own_claims_stand l n s k.index held_so.claim past fit legal held_so.its).1

    of_channel : held_so.claim.channel ≡ c
    of_channel = sym of_claim.channel ∙ its_number

    of_serial : held_so.claim.serial ≡ k.serial
    of_serial = sym of_claim.serial ∙ its_serial

    since : HeldSince l n c past
    since = held_since l n c past legal
        (subst (λ (d : ChanNo). is_had_by_hold d) (ap (λ (x : OwnClaim). x.channel) claim_is ∙ of_channel) may.held)
      where
        is_had_by_hold : ChanNo → Type 0
        is_had_by_hold d = is_held_by n (st.hold d.0) ≡ true

    claimed_in : has (claims_key s.0 k.index k.serial) (mine n since.later) ≡ true
    claimed_in =
        ap (has (claims_key s.0 k.index k.serial)) (sym since.own)
        ∙ subst (λ (d : ChanNo). has (claims_key s.0 k.index k.serial) (under d.0 (mine n past)) ≡ true) of_channel
        (subst (λ (q : ℕ). has (claims_key s.0 k.index q) (under held_so.claim.channel.0 (mine n past)) ≡ true)
        of_serial held_so.claimed_under)

    unset_in : has (sets_mode c.0) (mine n since.later) ≡ false
    unset_in =
        ap (has (sets_mode c.0)) (sym since.own)
        ∙ subst (λ (d : ChanNo). has (sets_mode d.0) (under d.0 (mine n past)) ≡ false) of_channel held_so.unset

    not_yet : was_claimed ((state_after since.before).key s.0 k.index) k.serial ≡ true → ⊥
    not_yet had =
        claim_is_new l n (since.before ++ cut.past) cut.later s.0 k.index k.serial opened.act legal_cut opened.opening
        (permanent_stands l since.before cut.past
        (legal_beginning l (since.before ++ cut.past) (event_of n opened.act ∷ cut.later) legal_cut)
        (key_claimed s.0 k.index k.serial) had)
      where
        opened : Opened (claims_key s.0 k.index k.serial) (mine n since.later)
        opened = first_opened (claims_key s.0 k.index k.serial) (mine n since.later) claimed_in

        cut : Cut n since.later opened.before opened.act
            (since_first (claims_key s.0 k.index k.serial) (mine n since.later))
        cut = cut_at n since.later opened.before opened.act
            (since_first (claims_key s.0 k.index k.serial) (mine n since.later)) opened.parts

        legal_cut : IsLegal l ((since.before ++ cut.past) ++ event_of n opened.act ∷ cut.later)
        legal_cut = subst (IsLegal l)
            (ap (λ evs. since.before ++ evs) cut.parts
            ∙ sym (append_assoc since.before cut.past (event_of n opened.act ∷ cut.later))) since.keeps.legal

    by_cut : Earlier before since.before ⊎ Further before did since.before since.later
        → (st.chan c.0).serial ≡ ((state_after before).chan c.0).serial
    by_cut (inl there) = absurd (not_yet
        (subst (λ evs. was_claimed ((state_after evs).key s.0 k.index) k.serial ≡ true) (sym there.parts)
        (permanent_stands l before there.between
        (legal_beginning l (before ++ there.between) since.later
        (subst (IsLegal l) (ap (λ evs. evs ++ since.later) there.parts) since.keeps.legal))
        (key_claimed s.0 k.index k.serial) enrolled_then.0)))
    by_cut (inr there) =
        ap (λ evs. ((state_after evs).chan c.0).serial) whole
        ∙ channel_stays l n c before did (record {
          legal = legal_whole;
          has_it = subst (λ evs. is_held_by n ((state_after evs).hold c.0) ≡ true) (sym there.parts)
              (had_stands l n since.before there.between
              (legal_beginning l (since.before ++ there.between) did
              (subst (IsLegal l) (ap (λ evs. evs ++ did) there.parts) legal_whole))
              (the_hold c) (none_in (releases c.0) since.keeps.kept).0 since.keeps.has_it);
          kept = (none_in (releases c.0) since.keeps.kept).1;
        }) (none_reopened c.0 (mine n did) (none_in (sets_mode c.0) unset_in).1)
      where
        none_in : (p : Act → Bool) → has p (mine n since.later) ≡ false
            → (has p (mine n there.between) ≡ false) × (has p (mine n did) ≡ false)
        none_in p none =
            has_none-append p (mine n there.between) (mine n did)
            (ap (has p) (sym (ap (mine n) there.rest ∙ mine-append n there.between did)) ∙ none)

    same_serial : (st.chan c.0).serial ≡ ((state_after before).chan c.0).serial
    same_serial = by_cut (cut_twice before did since.before since.later (sym whole ∙ since.whole))

-- a key that was enrolled for a number, and is in the key set at last, is a key of the channel that the number had then
enrolled_keeps : (l : Limits) (before later : List Event) (c : ChanNo) (s : SelNo) (k : KeyId) → IsFit l
    → IsLegal l (before ++ later) → IsOrderly l (before ++ later)
    → (state_after before).enrolled c.0 s.0 ≡ Some k
    → is_in_key_set ((state_after (before ++ later)).key s.0 k.index) k.serial ≡ true
    → channel_of_key (state_after (before ++ later)) s.0 k.index ≡ channel_of c ((state_after before).chan c.0).serial
enrolled_keeps l before later c s k fit legal orderly enrolled last =
    keeps_since l (IsOrderly l) before later s.0 k.index k.serial
    (λ _ st. channel_of_key st s.0 k.index ≡ channel_of c ((state_after before).chan c.0).serial) fit
    (record {
      careful = λ events good. orderly_is_careful l events good;
      beginning = λ past e good. beginnings_are_orderly l past (e ∷ []) good;
      start = λ in_set.
          let its : Stage = (state_after before).key s.0 k.index in
          let present = (and_parts (fits its k.serial) (in_key_set its) in_set).0 in
          let serial = eqb-true its.serial k.serial (and_parts its.claimed (its.serial == k.serial) present).1 in
          ap (λ (d : ChanNo). channel_of d ((state_after before).chan d.0).serial)
          ((enrolled_keys_are_claimed l c s k before fit (legal_beginning l before later legal) enrolled).1 serial);
      published = λ past e did whole legal' step good found is same unpublished.
          published_same l before c s k fit enrolled past e did whole legal' step good found is same;
      stays = λ past e did legal' step stand was earlier.
          same_channel_step l past e fit legal' step stand s.0 k.index was ∙ earlier;
    }) legal orderly last

-- ---- the law

-- serials of a number don't fall
serial_rises : (l : Limits) (before later : List Event) (c : ChanNo) (serial : ℕ) → IsLegal l (before ++ later)
    → ((state_after before).chan c.0).made ≡ true → ((state_after before).chan c.0).serial ≡ serial
    → serial ≤ ((state_after (before ++ later)).chan c.0).serial
serial_rises l before later c serial legal made same =
    ltb-false now.serial serial
    (not-true (nat_lt now.serial serial) (and_parts now.made (not (nat_lt now.serial serial))
    (permanent_stands l before later legal (channel_opened c.0 serial)
    (and_from was.made (not (nat_lt was.serial serial)) made (not_below was.serial serial same)))).1)
  where
    was : Chan
    was = (state_after before).chan c.0

    now : Chan
    now = (state_after (before ++ later)).chan c.0

    not_below : (a b : ℕ) → a ≡ b → not (nat_lt a b) ≡ true
    not_below a b equal = by_test (nat_lt a b) refl
      where
        by_test : (x : Bool) → nat_lt a b ≡ x → not x ≡ true
        by_test true below = absurd (omega (arith, equal, ltb-true a b below))
        by_test false above = refl

-- the caller that has just put a pin on an index has it
has_pinned : (l : Limits) (n : CallerNo) (s : SelNo) (i : ℕ) (found : Stage) (past : List Event)
    → IsLegal l (past ++ event_of n (Pin s i found) ∷ [])
    → has_pin (state_after (past ++ event_of n (Pin s i found) ∷ [])) n s i ≡ true
has_pinned l n s i found past legal =
    pins_are_own l n s i (past ++ event_of n (Pin s i found) ∷ []) legal
    ∙ (ap (keeps_pin s.0 i) (mine-own n past (event_of n (Pin s i found)) (eq-eqb n.0 n.0 refl))
    ∙ (ap is_yes (last-more (pin_changed s.0 i) (mine n past) (Pin s i found))
    ∙ ap (λ b. is_yes (option_or (if b then Some true else None) (last (pin_changed s.0 i) (mine n past))))
    (same_two s.0 i)))

pub closers_cancel_their_own : ClosersCancelTheirOwn
closers_cancel_their_own l n c s i found past fit legal orderly amid valid =
    by_seen (closing_seen l c (amid.begun ++ CancelKey s i found ∷ amid.left) true amid.runs amid.begun s i found
    amid.left refl)
  where
    by_seen : Seen c s i amid.begun → channel_of_key (state_after past) s.0 i ≡ c
    by_seen seen =
        subst (λ (j : ℕ). channel_of_key (state_after past) s.0 j ≡ c) seen.index
        (kept ∙ ap (channel_of c.number) its_serial)
      where
        k : KeyId
        k = seen.k

        reg : Act
        reg = LookReg c.number s (Some k)

        look : Act
        look = LookChannel c.number seen.looked

        pin : Act
        pin = Pin s k.index seen.pinned

        touching : Act
        touching = Touch s k.index seen.touched

        legal_past : IsLegal l past
        legal_past = legal_beginning l past (event_of n (CancelKey s i found) ∷ []) legal

        cut1 : Cut n past (amid.before ++ seen.first) reg (look ∷ pin ∷ touching ∷ [])
        cut1 = cut_at n past (amid.before ++ seen.first) reg (look ∷ pin ∷ touching ∷ [])
            (amid.parts ∙ (ap (λ acts. amid.before ++ acts) seen.parts
            ∙ sym (append_assoc amid.before seen.first (reg ∷ look ∷ pin ∷ touching ∷ []))))

        cut2 : Cut n cut1.later [] look (pin ∷ touching ∷ [])
        cut2 = cut_at n cut1.later [] look (pin ∷ touching ∷ []) cut1.mine_later

        cut3 : Cut n cut2.later [] pin (touching ∷ [])
        cut3 = cut_at n cut2.later [] pin (touching ∷ []) cut2.mine_later

        -- the history before it found the key enrolled, before it found the channel, and before its pin
        first : List Event
        first = cut1.past

        second : List Event
        second = first ++ event_of n reg ∷ cut2.past

        third : List Event
        third = second ++ event_of n look ∷ cut3.past

        from_first : past ≡ first ++ event_of n reg ∷ cut1.later
        from_first = cut1.parts

        from_second : past ≡ second ++ event_of n look ∷ cut2.later
        from_second = from_first ∙ (ap (λ evs. first ++ event_of n reg ∷ evs) cut2.parts
            ∙ sym (append_assoc first (event_of n reg ∷ cut2.past) (event_of n look ∷ cut2.later)))

        from_third : past ≡ third ++ event_of n pin ∷ cut3.later
        from_third = from_second ∙ (ap (λ evs. second ++ event_of n look ∷ evs) cut3.parts
            ∙ sym (append_assoc second (event_of n look ∷ cut3.past) (event_of n pin ∷ cut3.later)))

        enrolled : (state_after first).enrolled c.number.0 s.0 ≡ Some k
        enrolled =
            let answers : Answers (state_after first) n (LookReg c.number s (Some k)) =
            (legal_next l first (event_of n reg) cut1.later (subst (IsLegal l) from_first legal_past)).answers in
            cc answers

        looked_is : seen.looked ≡ (state_after second).chan c.number.0
        looked_is =
            let answers : Answers (state_after second) n (LookChannel c.number seen.looked) =
            (legal_next l second (event_of n look) cut2.later (subst (IsLegal l) from_second legal_past)).answers in
            cc answers

        present : fits_channel ((state_after second).chan c.number.0) c.serial ≡ true
        present = subst (λ (x : Chan). fits_channel x c.serial ≡ true) looked_is seen.present

        pinned_is : seen.pinned ≡ (state_after third).key s.0 k.index
        pinned_is =
            let answers : Answers (state_after third) n (Pin s k.index seen.pinned) =
            (legal_next l third (event_of n pin) cut3.later (subst (IsLegal l) from_third legal_past)).answers in
            cc answers

        -- the key that it cancels is the one that it pinned
        pinned : List Event
        pinned = third ++ event_of n pin ∷ []

        from_pinned : past ≡ pinned ++ cut3.later
        from_pinned = from_third ∙ sym (append_assoc third (event_of n pin ∷ []) cut3.later)

        legal_pinned : IsLegal l (pinned ++ cut3.later)
        legal_pinned = subst (IsLegal l) from_pinned legal_past

        serial_now : ((state_after past).key s.0 k.index).serial ≡ k.serial
        serial_now =
            ap (λ evs. ((state_after evs).key s.0 k.index).serial) from_pinned
            ∙ ((pinned_keys_stay l n s k.index pinned cut3.later fit legal_pinned
            (has_pinned l n s k.index seen.pinned third (legal_beginning l pinned cut3.later legal_pinned))
            (ap (has (unpins s.0 k.index)) cut3.mine_later)).serial
            ∙ (ap (λ st. (st.key s.0 k.index).serial) (state_after-more third (event_of n pin))
            ∙ (ap (λ (x : Stage). x.serial) (sym pinned_is)
            ∙ eqb-true seen.pinned.serial k.serial
            (and_parts seen.pinned.claimed (seen.pinned.serial == k.serial) seen.its_key).1)))

        found_is : found ≡ (state_after past).key s.0 k.index
        found_is =
            let answers : Answers (state_after past) n (CancelKey s i found) =
            (legal_next l past (event_of n (CancelKey s i found)) [] legal).answers in
            let now : found ≡ (state_after past).key s.0 i = cc answers in
            now ∙ ap (λ (j : ℕ). (state_after past).key s.0 j) (sym seen.index)

        in_set : in_key_set ((state_after past).key s.0 k.index) ≡ true
        in_set = subst (λ (x : Stage). in_key_set x ≡ true) found_is
            (and_parts (in_key_set found) (not found.cancelled) valid).0

        last : is_in_key_set ((state_after past).key s.0 k.index) k.serial ≡ true
        last = subst (λ (q : ℕ). is_in_key_set ((state_after past).key s.0 k.index) q ≡ true) serial_now
            (set_fits (state_after past) (legal-sound l past legal_past) s.0 k.index in_set)

        kept : channel_of_key (state_after past) s.0 k.index
            ≡ channel_of c.number ((state_after first).chan c.number.0).serial
        kept =
            subst (λ evs. channel_of_key (state_after evs) s.0 k.index
            ≡ channel_of c.number ((state_after first).chan c.number.0).serial) (sym from_first)
            (enrolled_keeps l first (event_of n reg ∷ cut1.later) c.number s k fit
            (subst (IsLegal l) from_first legal_past) (subst (IsOrderly l) from_first orderly) enrolled
            (subst (λ evs. is_in_key_set ((state_after evs).key s.0 k.index) k.serial ≡ true) from_first last))

        -- its number had the channel all the time
        serial_then : ((state_after second).chan c.number.0).serial ≡ c.serial
        serial_then = eqb-true ((state_after second).chan c.number.0).serial c.serial
            (and_parts ((state_after second).chan c.number.0).made
            (((state_after second).chan c.number.0).serial == c.serial) present).1

        made_then : ((state_after second).chan c.number.0).made ≡ true
        made_then =
            (and_parts ((state_after second).chan c.number.0).made
            (((state_after second).chan c.number.0).serial == c.serial) present).0

        last_serial : ((state_after past).chan c.number.0).serial ≡ ((state_after first).chan c.number.0).serial
        last_serial =
            subst (λ (d : ChanNo). ((state_after past).chan d.0).serial
            ≡ ((state_after first).chan c.number.0).serial) (ap (λ x. x.number) kept) (ap (λ x. x.serial) kept)

        rises : c.serial ≤ ((state_after past).chan c.number.0).serial
        rises = subst (λ evs. c.serial ≤ ((state_after evs).chan c.number.0).serial) (sym from_second)
            (serial_rises l second (event_of n look ∷ cut2.later) c.number c.serial
            (subst (IsLegal l) from_second legal_past) made_then serial_then)

        legal_second : IsLegal l second
        legal_second = legal_beginning l second (event_of n look ∷ cut2.later)
            (subst (IsLegal l) from_second legal_past)

        rose : ((state_after first).chan c.number.0).serial ≤ ((state_after second).chan c.number.0).serial
        rose = by_made ((state_after first).chan c.number.0).made refl
          where
            by_made : (b : Bool) → ((state_after first).chan c.number.0).made ≡ b
                → ((state_after first).chan c.number.0).serial ≤ ((state_after second).chan c.number.0).serial
            by_made true made =
                serial_rises l first (event_of n reg ∷ cut2.past) c.number
                ((state_after first).chan c.number.0).serial legal_second made refl
            by_made false unmade =
                let none : ((state_after first).chan c.number.0).serial ≡ 0 = ap (λ (x : Chan). x.serial)
                ((legal-sound l first (legal_beginning l first (event_of n reg ∷ cut2.past) legal_second)).unmade_bare
                c.number.0 unmade) in
                omega (arith, none)

        its_serial : ((state_after first).chan c.number.0).serial ≡ c.serial
        its_serial = omega (arith, serial_then, last_serial, rises, rose)
