-- Closing a channel leaves no key of it to cancel, and finishing the closing of a selector no index to clear out.
use Rattle.std.proofs.Common.{◌≡◌, ℕ, ◌+◌, ◌<◌, ◌≤◌, ◌==◌, nat_lt, Bool, true, false, not, ◌&&◌, ◌||◌, if◌then◌else◌}
use Rattle.std.proofs.Common.{Some, None, is_some, List, [], ◌∷◌, ◌++◌, refl, ap, sym, ◌∙◌, subst, eqb-true, eq-eqb}
use Rattle.std.proofs.Common.{arith, inl, inr}
use Rattle.std.proofs.lemmas.Bool.{and_parts, or_cases, or_left, or_right, or_parts, or_from, not-true, not-false}
use Rattle.std.proofs.lemmas.Bool.{ltb-true, ltb-false, ne_eqb}
use Rattle.std.proofs.lemmas.List.{append-nil}
use Rattle.nio_base.specs.declared.limits.Limits.{Limits}
use Rattle.nio_base.specs.declared.numbers.ChanId.{ChanId}
use Rattle.nio_base.specs.declared.numbers.ChanNo.{ChanNo}
use Rattle.nio_base.specs.declared.numbers.KeyId.{KeyId}
use Rattle.nio_base.specs.declared.numbers.SelNo.{SelNo}
use Rattle.nio_history.proofs.LastsAlone.{same_two}
use Rattle.nio_history.specs.Acts.{takes_close}
use Rattle.nio_history.specs.OwnEvents.{has, is_outside, enters}
use Rattle.nio_history.specs.Pins.{removes}
use Rattle.nio_history.specs.Questions.{Question, question_of, answer_of}
use Rattle.nio_history.specs.Sets.{fits, is_in_key_set, fits_channel, is_open_channel}
use Rattle.nio_history.specs.declared.act.Act.{Act}
use Rattle.nio_history.specs.declared.act.Act.TheVariants.{CancelKey, LookChannel, LookKeys, LookReg, Publish, Remove}
use Rattle.nio_history.specs.declared.act.Act.TheVariants.{CloseBit, Enter, Pin}
use Rattle.nio_history.specs.declared.found.Chan.{Chan}
use Rattle.nio_history.specs.declared.found.Stage.{Stage}
use Rattle.nio_orderly.proofs.ActLists.{owes-settled}
use Rattle.nio_orderly.proofs.Kept.{Kept, kept-append, kept-one, kept-none, kept-calm, kept-closing, kept-entering}
use Rattle.nio_orderly.proofs.Kept.{is_loud, calm, keeping}
use Rattle.nio_orderly.proofs.ListWords.{has-first, has-second, owes-later}
use Rattle.nio_orderly.specs.Owed.{owes, closing_duty, clearing_duty, settles_key, looks_for_key, finds_another}
use Rattle.nio_steps.proofs.PlanWalks.{Walks}
use Rattle.nio_steps.proofs.SelectionLaws.{none_of-append}
use Rattle.nio_steps.proofs.Walks.{Always, always_weaker, always_bind, always_if, always_sweep}
use Rattle.nio_steps.specs.ChannelCalls.{cancel_at, cancel_enrolled, cancel_keys, close_once_more, close_found}
use Rattle.nio_steps.specs.ChannelCalls.{close_channel_plan}
use Rattle.nio_steps.specs.KeyCalls.{cancel_pinned, cancel_plan}
use Rattle.nio_steps.specs.Names.{selector, channel_of, key}
use Rattle.nio_steps.specs.Plan.{Plan, reply, ◌>>=◌, ◌>>◌}
use Rattle.nio_steps.specs.SelectCalls.{closed, busy, remove_key, remove_keys, try_finish_plan}
use Rattle.nio_steps.specs.Steps.{stage_in, channel_in, number_in, enrolled_in, holder_in, close_bit}
use Rattle.nio_steps.specs.Steps.{unpin}
use Rattle.nio_steps.specs.Sweeps.{sweep_to}

same_number : (n : ℕ) → (n == n) ≡ true
same_number n = eq-eqb n n refl

-- ---- what an act is by its question

-- it isn't a look for the key that is enrolled for a channel
abbrev looks_elsewhere : Question → Bool
looks_elsewhere (Question.look_reg c s) = false
looks_elsewhere _ = true

elsewhere : (c s : ℕ) (act : Act) → looks_elsewhere (question_of act) ≡ true → looks_for_key c s act ≡ false
elsewhere c s (LookReg c' s' found) is = absurd (cc is)
elsewhere c s _ is = refl

elsewhere-one : (c s : ℕ) (act : Act) → looks_elsewhere (question_of act) ≡ true
    → has (looks_for_key c s) (act ∷ []) ≡ false
elsewhere-one c s act is = ap (λ b. b || false) (elsewhere c s act is)

cancel-settles : (s : SelNo) (k : KeyId) (act : Act) → question_of act ≡ Question.cancel_key s k.index
    → settles_key s.0 k act ≡ true
cancel-settles s k (CancelKey s' i found) asks =
    let first : s' ≡ s = cc asks in
    let second : i ≡ k.index = cc asks in
    ap (λ b. b || false)
    (ap (λ (x : SelNo). (x.0 == s.0) && (i == k.index)) first
    ∙ (ap (λ (x : ℕ). (s.0 == s.0) && (x == k.index)) second ∙ same_two s.0 k.index))
cancel-settles s k _ asks = absurd (cc asks)

-- a key that its index hasn't, or that is removed, is found outside the key set
outside : (stage : Stage) (serial : ℕ) → (fits stage serial && not stage.removed) ≡ false
    → is_in_key_set stage serial ≡ false
outside stage serial not_present = by_tests (fits stage serial) stage.published stage.removed not_present
  where
    by_tests : (a b c : Bool) → (a && not c) ≡ false → (a && (b && not c)) ≡ false
    by_tests false b c is = refl
    by_tests true true c is = is
    by_tests true false c is = refl

pin-settles : (s : SelNo) (k : KeyId) (act : Act) → question_of act ≡ Question.pin s k.index
    → (fits (stage_in (answer_of act)) k.serial && not (stage_in (answer_of act)).removed) ≡ false
    → settles_key s.0 k act ≡ true
pin-settles s k (Pin s' i found) asks not_present =
    let first : s' ≡ s = cc asks in
    let second : i ≡ k.index = cc asks in
    let here : ((s'.0 == s.0) && (i == k.index)) ≡ true = ap (λ (x : SelNo). (x.0 == s.0) && (i == k.index)) first
    ∙ (ap (λ (x : ℕ). (s.0 == s.0) && (x == k.index)) second ∙ same_two s.0 k.index) in
    by_place ((s'.0 == s.0) && (i == k.index)) here
  where
    by_place : (b : Bool) → b ≡ true → is_outside k.serial (if b then Some found else None) ≡ true
    by_place true is = ap not (outside found k.serial not_present)
    by_place false is = absurd (cc is)
pin-settles s k _ asks not_present = absurd (cc asks)

-- ---- cancelling a key

-- what a caller did when it cancelled a key, or found that it isn't present
pub record CancelsKey (l : Limits) (s : SelNo) (k : KeyId) (acts : List Act) : Type 0 where
  pub kept : Kept l acts
  pub settles : has (settles_key s.0 k) acts ≡ true
  pub looks : (c t : ℕ) → has (looks_for_key c t) acts ≡ false

kept_two : (l : Limits) (x y : Act) → calm (question_of x) ≡ true → calm (question_of y) ≡ true → Kept l (x ∷ y ∷ [])
kept_two l x y first second = kept-append l (x ∷ []) (y ∷ []) (kept-one l x first) (kept-one l y second)

abbrev nothing_more : Plan (Unit {0})
nothing_more = reply tt

cancels_key : (l : Limits) (s : SelNo) (k : KeyId) → Always (λ acts _. CancelsKey l s k acts) (cancel_plan (key s k))
unfolding cancel_plan
cancels_key l s k =
    λ pinned asks. by_test pinned asks
    (fits (stage_in (answer_of pinned)) k.serial && not (stage_in (answer_of pinned)).removed) refl
  where
    by_test : (pinned : Act) → question_of pinned ≡ Question.pin s k.index → (b : Bool)
        → (fits (stage_in (answer_of pinned)) k.serial && not (stage_in (answer_of pinned)).removed) ≡ b
        → Always (λ acts _. CancelsKey l s k (pinned ∷ acts))
        ((if b then (cancel_pinned s k.index >> nothing_more) else nothing_more)
        >>= λ answer. (unpin s k.index >> reply answer))
    by_test pinned asks true is = λ touched touches cancelled asks' unpinned asks''. record {
      kept = kept-append l (pinned ∷ touched ∷ []) (cancelled ∷ unpinned ∷ [])
          (kept_two l pinned touched (ap calm asks) (ap calm touches))
          (kept_two l cancelled unpinned (ap calm asks') (ap calm asks''));
      settles = has-second (settles_key s.0 k) (pinned ∷ touched ∷ []) (cancelled ∷ unpinned ∷ [])
          (has-first (settles_key s.0 k) (cancelled ∷ []) (unpinned ∷ [])
          (ap (λ b. b || false) (cancel-settles s k cancelled asks')));
      looks = λ c t. none_of-append (looks_for_key c t) (pinned ∷ touched ∷ []) (cancelled ∷ unpinned ∷ [])
          (none_of-append (looks_for_key c t) (pinned ∷ []) (touched ∷ [])
          (elsewhere-one c t pinned (ap looks_elsewhere asks)) (elsewhere-one c t touched (ap looks_elsewhere touches)))
          (none_of-append (looks_for_key c t) (cancelled ∷ []) (unpinned ∷ [])
          (elsewhere-one c t cancelled (ap looks_elsewhere asks'))
          (elsewhere-one c t unpinned (ap looks_elsewhere asks'')));
    }
    by_test pinned asks false is = λ unpinned asks'. record {
      kept = kept_two l pinned unpinned (ap calm asks) (ap calm asks');
      settles = has-first (settles_key s.0 k) (pinned ∷ []) (unpinned ∷ [])
          (ap (λ b. b || false) (pin-settles s k pinned asks is));
      looks = λ c t. none_of-append (looks_for_key c t) (pinned ∷ []) (unpinned ∷ [])
          (elsewhere-one c t pinned (ap looks_elsewhere asks)) (elsewhere-one c t unpinned (ap looks_elsewhere asks'));
    }

-- ---- cancelling the key that is enrolled for a channel in a selector

-- what a caller did when it looked which key is enrolled there, and cancelled it
record CancelsEnrolled (l : Limits) (c : ChanId) (s : ℕ) (acts : List Act) : Type 0 where
  kept : Kept l acts
  settled : (k : KeyId) → owes (closing_duty c s k) acts ≡ false
  looks : (t : ℕ) → (s == t) ≡ false → has (looks_for_key c.number.0 t) acts ≡ false

looks_here : (c : ChanNo) (s : ℕ) (c' : ChanNo) (s' : SelNo) → c' ≡ c → s' ≡ selector s → (t : ℕ)
    → ((c'.0 == c.0) && (s'.0 == t)) ≡ (s == t)
looks_here c s c' s' first second t =
    ap (λ (x : ChanNo). (x.0 == c.0) && (s'.0 == t)) first
    ∙ (ap (λ (x : SelNo). (c.0 == c.0) && (x.0 == t)) second ∙ ap (λ b. b && (s == t)) (same_number c.0))

-- a look that finds no key, or a key that is cancelled then, leaves nothing to do
look_settled : (b : Bool) (other : Bool) → b ≡ false → (b && other) ≡ false
look_settled b other is = ap (λ x. x && other) is

look-settles : (c : ChanId) (act : Act) → question_of act ≡ Question.look_channel c.number
    → fits_channel (channel_in (answer_of act)) c.serial ≡ false → finds_another c act ≡ true
look-settles c (LookChannel c' found) asks other =
    let same : c' ≡ c.number = cc asks in
    ap (λ (x : ChanNo). (x.0 == c.number.0) && not (fits_channel found c.serial)) same
    ∙ (ap (λ b. b && not (fits_channel found c.serial)) (same_number c.number.0) ∙ ap not other)
look-settles c _ asks other = absurd (cc asks)

-- what a caller did after it found this key enrolled: it settled that
record SettlesKey (l : Limits) (c : ChanId) (s : ℕ) (k : KeyId) (acts : List Act) : Type 0 where
  kept : Kept l acts
  settles : has (closing_duty c s k).settles acts ≡ true
  looks : (d t : ℕ) → has (looks_for_key d t) acts ≡ false

settles_more : (c : ChanId) (s : ℕ) (k : KeyId) (acts : List Act) → has (settles_key s k) acts ≡ true
    → has (closing_duty c s k).settles acts ≡ true
settles_more c s k [] there = absurd (cc there)
settles_more c s k (act ∷ acts) there =
    elim (or_cases (settles_key s k act) (has (settles_key s k) acts) there) [
      | inl now ↦ or_left (settles_key s k act || finds_another c act) (has (closing_duty c s k).settles acts)
          (or_left (settles_key s k act) (finds_another c act) now)
      | inr later ↦ or_right (settles_key s k act || finds_another c act) (has (closing_duty c s k).settles acts)
          (settles_more c s k acts later)
    ]

settles_found : (l : Limits) (c : ChanId) (s : ℕ) (k : KeyId)
    → Always (λ acts _. SettlesKey l c s k acts) (cancel_at c (selector s) (Some k))
settles_found l c s k = λ look asks.
    always_if (λ acts _. SettlesKey l c s k (look ∷ acts)) (fits_channel (channel_in (answer_of look)) c.serial)
    (cancel_plan (key (selector s) k) >> reply tt) (reply tt)
    (λ present. always_bind (λ acts _. CancelsKey l (selector s) k acts) (λ acts _. SettlesKey l c s k (look ∷ acts))
    (cancel_plan (key (selector s) k)) (λ _. reply tt) (cancels_key l (selector s) k)
    (λ acts _ cancelled. subst (λ xs. SettlesKey l c s k (look ∷ xs)) (sym (append-nil acts)) (record {
      kept = kept-append l (look ∷ []) acts (kept-one l look (ap calm asks)) cancelled.kept;
      settles = has-second (closing_duty c s k).settles (look ∷ []) acts (settles_more c s k acts cancelled.settles);
      looks = λ d t. none_of-append (looks_for_key d t) (look ∷ []) acts
          (elsewhere-one d t look (ap looks_elsewhere asks)) (cancelled.looks d t);
    })))
    (λ other. record {
      kept = kept-one l look (ap calm asks);
      settles = or_left (settles_key s k look || finds_another c look) false
          (or_right (settles_key s k look) (finds_another c look) (look-settles c look asks other));
      looks = λ d t. elsewhere-one d t look (ap looks_elsewhere asks);
    })

cancels_enrolled : (l : Limits) (c : ChanId) (s : ℕ)
    → Always (λ acts _. CancelsEnrolled l c s acts) (cancel_enrolled c s)
cancels_enrolled l c s = λ looked asks. by_act looked asks
  where
    by_act : (looked : Act) → question_of looked ≡ Question.look_reg c.number (selector s)
        → Always (λ acts _. CancelsEnrolled l c s (looked ∷ acts))
        (cancel_at c (selector s) (enrolled_in (answer_of looked)))
    by_act (LookReg c' s' None) asks =
        let here = looks_here c.number s c' s' (cc asks) (cc asks) in
        record {
          kept = kept-one l (LookReg c' s' None) refl;
          settled = λ k. ap (λ b. if b then (b && false) && true else true) (here s ∙ same_number s);
          looks = λ t other. ap (λ b. b || false) (here t ∙ other);
        }
    by_act (LookReg c' s' (Some k')) asks =
        always_weaker (λ acts _. SettlesKey l c s k' acts)
        (λ acts _. CancelsEnrolled l c s (LookReg c' s' (Some k') ∷ acts)) (cancel_at c (selector s) (Some k'))
        (λ acts _ done. record {
          kept = kept-append l (LookReg c' s' (Some k') ∷ []) acts (kept-one l (LookReg c' s' (Some k')) refl)
              done.kept;
          settled =
              λ k. ap (λ b. if b then (b && ((k'.index == k.index) && (k'.serial == k.serial)))
              && not (has (closing_duty c s k).settles acts) else owes (closing_duty c s k) acts)
              (here s ∙ same_number s)
              ∙ by_key acts done.settles k (k'.index == k.index) (k'.serial == k.serial) refl refl;
          looks = λ t other. none_of-append (looks_for_key c.number.0 t) (LookReg c' s' (Some k') ∷ []) acts
              (ap (λ b. b || false) (here t ∙ other)) (done.looks c.number.0 t);
        }) (settles_found l c s k')
      where
        here : (t : ℕ) → ((c'.0 == c.number.0) && (s'.0 == t)) ≡ (s == t)
        here = looks_here c.number s c' s' (cc asks) (cc asks)

        by_key : (acts : List Act) → has (closing_duty c s k').settles acts ≡ true → (k : KeyId) (a b : Bool)
            → (k'.index == k.index) ≡ a → (k'.serial == k.serial) ≡ b
            → (((k'.index == k.index) && (k'.serial == k.serial)) && not (has (closing_duty c s k).settles acts))
            ≡ false
        by_key acts settles k true true first second =
            let same : k' ≡ k = by_parts (eqb-true k'.index k.index first) (eqb-true k'.serial k.serial second) in
            let there : has (closing_duty c s k).settles acts ≡ true =
            ap (λ (x : KeyId). has (closing_duty c s x).settles acts) (sym same) ∙ settles in
            ap (λ x. ((k'.index == k.index) && (k'.serial == k.serial)) && not x) there
            ∙ by_none ((k'.index == k.index) && (k'.serial == k.serial))
          where
            by_parts : k'.index ≡ k.index → k'.serial ≡ k.serial → k' ≡ k
            by_parts i q = λ j. record { index = i j; serial = q j }

            by_none : (x : Bool) → (x && false) ≡ false
            by_none true = refl
            by_none false = refl
        by_key acts settles k true false first second =
            look_settled ((k'.index == k.index) && (k'.serial == k.serial))
            (not (has (closing_duty c s k).settles acts))
            (ap (λ x. x && (k'.serial == k.serial)) first ∙ second)
        by_key acts settles k false b first second =
            look_settled ((k'.index == k.index) && (k'.serial == k.serial))
            (not (has (closing_duty c s k).settles acts))
            (ap (λ x. x && (k'.serial == k.serial)) first)
    by_act _ asks = absurd (cc asks)

-- ---- closing a channel

-- the keys of the channel in the selectors below this one are cancelled
record Cancelled (l : Limits) (c : ChanId) (below : ℕ) (acts : List Act) : Type 0 where
  kept : Kept l acts
  settled : (s : ℕ) (k : KeyId) → s < below → owes (closing_duty c s k) acts ≡ false
  looks : (t : ℕ) → below ≤ t → has (looks_for_key c.number.0 t) acts ≡ false

one_more : (l : Limits) (c : ChanId) (s : ℕ) (xs ys : List Act) → Cancelled l c s xs → CancelsEnrolled l c s ys
    → Cancelled l c (s + 1) (xs ++ ys)
one_more l c s xs ys before turn = record {
  kept = kept-append l xs ys before.kept turn.kept;
  settled = λ t k below. by_test t k below (s == t) refl;
  looks = λ t above. none_of-append (looks_for_key c.number.0 t) xs ys (before.looks t (omega arith))
      (turn.looks t (ne_eqb s t (λ same. absurd (omega arith))));
}
  where
    by_test : (t : ℕ) (k : KeyId) → t < s + 1 → (b : Bool) → (s == t) ≡ b
        → owes (closing_duty c t k) (xs ++ ys) ≡ false
    by_test t k below true is =
        let same : s ≡ t = eqb-true s t is in
        subst (λ (u : ℕ). owes (closing_duty c u k) (xs ++ ys) ≡ false) same
        (owes-later (closing_duty c s k) xs ys (before.looks s (omega arith)) ∙ turn.settled k)
    by_test t k below false is = by_side (nat_lt t s) refl
      where
        by_side : (b : Bool) → nat_lt t s ≡ b → owes (closing_duty c t k) (xs ++ ys) ≡ false
        by_side true low = owes-settled (closing_duty c t k) xs ys (before.settled t k (ltb-true t s low))
        by_side false high =
            let above : s ≤ t = ltb-false t s high in
            let same : s ≡ t = omega (arith, above, below) in
            let clash : true ≡ false = sym (eq-eqb s t same) ∙ is in
            absurd (cc clash)

keys_cancelled : (l : Limits) (c : ChanId) → Always (λ acts _. Cancelled l c l.selectors acts) (cancel_keys l c)
keys_cancelled l c =
    always_bind (λ acts _. Cancelled l c l.selectors acts) (λ acts _. Cancelled l c l.selectors acts)
    (sweep_to l.selectors 0 (λ s _. cancel_enrolled c s) tt) (λ _. reply true)
    (always_sweep (λ s acts _. Cancelled l c s acts) l.selectors 0 (λ s _. cancel_enrolled c s) tt (omega arith)
    (record { kept = kept-none l; settled = λ s k below. absurd (omega arith); looks = λ t above. refl })
    (λ s ys _ low high before. always_weaker (λ acts _. CancelsEnrolled l c s acts)
    (λ acts _. Cancelled l c (s + 1) (ys ++ acts)) (cancel_enrolled c s)
    (λ acts _ turn. one_more l c s ys acts before turn) (cancels_enrolled l c s)))
    (λ acts _ cancelled. subst (Cancelled l c l.selectors) (sym (append-nil acts)) cancelled)

-- it does no more than look at a channel, or fail to close one
abbrev pub fails_to_close : Act → Bool
fails_to_close (LookChannel c found) = true
fails_to_close (CloseBit c from found) = not (takes_close from found)
fails_to_close _ = false

abbrev pub AreBeforeClosing : List Act → Type 0
AreBeforeClosing acts = has (λ act. not (fails_to_close act)) acts ≡ false

-- What holds of each run of a closing: of one that doesn't close the channel, and of the step that does and of what
-- cancels the keys then.
pub closing-always : (l : Limits) (c : ChanId) (P : List Act → Bool → Type 0)
    → ((acts : List Act) → AreBeforeClosing acts → P acts false)
    → ((acts : List Act) (from found : Chan) → AreBeforeClosing acts → from.serial ≡ c.serial
    → takes_close from found ≡ true
    → Always (λ more r. P (acts ++ CloseBit c.number from found ∷ more) r) (cancel_keys l c))
    → Always P (close_channel_plan l c)
unfolding close_channel_plan
closing-always l c P failed taken = λ look asks.
    let found = channel_in (answer_of look) in
    always_if (λ acts r. P (look ∷ acts) r) (is_open_channel found c.serial) (close_found l c found) (reply false)
    (λ opened. taking (look ∷ []) found (λ again. if is_open_channel again c.serial then close_once_more l c again
    else reply false) (looked look asks) (its_serial found opened)
    (λ again fails. always_if (λ acts r. P (look ∷ CloseBit c.number found again ∷ acts) r)
    (is_open_channel again c.serial) (close_once_more l c again) (reply false)
    (λ opened'. taking (look ∷ CloseBit c.number found again ∷ []) again (λ _. reply false)
    (more look asks found again fails) (its_serial again opened')
    (λ third fails'. failed (look ∷ CloseBit c.number found again ∷ CloseBit c.number again third ∷ [])
    (ends look asks found again third fails fails')))
    (λ _. failed (look ∷ CloseBit c.number found again ∷ []) (more look asks found again fails))))
    (λ _. failed (look ∷ []) (looked look asks))
  where
    its_serial : (x : Chan) → is_open_channel x c.serial ≡ true → x.serial ≡ c.serial
    its_serial x opened =
        eqb-true x.serial c.serial
        (and_parts x.made (x.serial == c.serial) (and_parts (fits_channel x c.serial) (not x.closed) opened).0).1

    looked : (look : Act) → question_of look ≡ Question.look_channel c.number → AreBeforeClosing (look ∷ [])
    looked (LookChannel c' found) asks = refl
    looked _ asks = absurd (cc asks)

    fails_one : (from found : Chan) → takes_close from found ≡ false
        → AreBeforeClosing (CloseBit c.number from found ∷ [])
    fails_one from found fails = ap (λ b. not (not b) || false) fails

    more : (look : Act) → question_of look ≡ Question.look_channel c.number → (from found : Chan)
        → takes_close from found ≡ false → AreBeforeClosing (look ∷ CloseBit c.number from found ∷ [])
    more look asks from found fails =
        none_of-append (λ act. not (fails_to_close act)) (look ∷ []) (CloseBit c.number from found ∷ [])
        (looked look asks) (fails_one from found fails)

    ends : (look : Act) → question_of look ≡ Question.look_channel c.number → (from found third : Chan)
        → takes_close from found ≡ false → takes_close found third ≡ false
        → AreBeforeClosing (look ∷ CloseBit c.number from found ∷ CloseBit c.number found third ∷ [])
    ends look asks from found third fails fails' =
        none_of-append (λ act. not (fails_to_close act)) (look ∷ CloseBit c.number from found ∷ [])
        (CloseBit c.number found third ∷ []) (more look asks from found fails) (fails_one found third fails')

    taking : (acts : List Act) (from : Chan) (rest : Chan → Plan Bool) → AreBeforeClosing acts
        → from.serial ≡ c.serial
        → ((found : Chan) → takes_close from found ≡ false
        → Always (λ more' r. P (acts ++ CloseBit c.number from found ∷ more') r) (rest found))
        → Always (λ more' r. P (acts ++ more') r)
        (close_bit c.number from >>= λ found. (if takes_close from found then cancel_keys l c else rest found))
    taking acts from rest before serial fails = λ act asks. by_act act asks
      where
        by_act : (act : Act) → question_of act ≡ Question.close_bit c.number from
            → Always (λ more' r. P (acts ++ act ∷ more') r)
            (if takes_close from (channel_in (answer_of act)) then cancel_keys l c
            else rest (channel_in (answer_of act)))
        by_act (CloseBit c' from' found) asks =
            let first : c' ≡ c.number = cc asks in
            let second : from' ≡ from = cc asks in
            let same : CloseBit c.number from found ≡ CloseBit c' from' found =
            ap (λ (x : ChanNo). CloseBit x from found) (sym first)
            ∙ ap (λ (x : Chan). CloseBit c' x found) (sym second) in
            subst (λ (a : Act). Always (λ more' r. P (acts ++ a ∷ more') r)
            (if takes_close from found then cancel_keys l c else rest found)) same
            (always_if (λ more' r. P (acts ++ CloseBit c.number from found ∷ more') r) (takes_close from found)
            (cancel_keys l c) (rest found) (taken acts from found before serial) (fails found))
        by_act _ asks = absurd (cc asks)

quiet_before : (act : Act) → fails_to_close act ≡ true → is_loud act ≡ false
quiet_before (LookChannel c found) is = refl
quiet_before (CloseBit c from found) is = not-true (takes_close from found) is
quiet_before (Publish s i found) is = absurd (cc is)
quiet_before (Enter s found) is = absurd (cc is)
quiet_before _ is = refl

all_quiet : (acts : List Act) → AreBeforeClosing acts → has is_loud acts ≡ false
all_quiet [] before = refl
all_quiet (act ∷ acts) before =
    let both = or_parts (not (fails_to_close act)) (has (λ a. not (fails_to_close a)) acts) before in
    or_from (is_loud act) (has is_loud acts) (quiet_before act (not-false (fails_to_close act) both.0))
    (all_quiet acts both.1)

pub close_channel-keeps : (l : Limits) (c : ChanId) → Walks (keeping l) (close_channel_plan l c)
close_channel-keeps l c = record {
  always = closing-always l c (λ acts _. Kept l acts)
      (λ acts before. kept-calm l acts (all_quiet acts before))
      (λ acts from found before serial takes.
      always_weaker (λ more _. Cancelled l c l.selectors more)
      (λ more _. Kept l (acts ++ CloseBit c.number from found ∷ more)) (cancel_keys l c)
      (λ more _ cancelled. kept-append l acts (CloseBit c.number from found ∷ more)
      (kept-calm l acts (all_quiet acts before))
      (kept-closing l c.number from found more cancelled.kept
      (λ s k below. subst (λ (q : ℕ). owes (closing_duty (channel_of c.number q) s k) more ≡ false) (sym serial)
      (cancelled.settled s k below)))) (keys_cancelled l c));
}

-- ---- finishing the closing of a selector

remove-removes : (s : SelNo) (i : ℕ) (act : Act) → question_of act ≡ Question.remove s i → removes s.0 i act ≡ true
remove-removes s i (Remove s' i' found) asks =
    let first : s' ≡ s = cc asks in
    let second : i' ≡ i = cc asks in
    ap (λ (x : SelNo). (x.0 == s.0) && (i' == i)) first
    ∙ (ap (λ (x : ℕ). (s.0 == s.0) && (x == i)) second ∙ same_two s.0 i)
remove-removes s i _ asks = absurd (cc asks)

-- the indexes below are removed
record Removed (l : Limits) (s : SelNo) (below : ℕ) (acts : List Act) : Type 0 where
  kept : Kept l acts
  unentered : has (enters s.0) acts ≡ false
  removed : (i : ℕ) → i < below → has (removes s.0 i) acts ≡ true

not_entering : (s : ℕ) (act : Act) → calm (question_of act) ≡ true → enters s act ≡ false
not_entering s (Enter s' found) is = absurd (cc is)
not_entering s _ is = refl

removes_one : (l : Limits) (s : SelNo) (i : ℕ) (xs : List Act) → Removed l s i xs
    → Always (λ acts _. Removed l s (i + 1) (xs ++ acts)) (remove_key s i)
removes_one l s i xs before = λ act asks. record {
  kept = kept-append l xs (act ∷ []) before.kept (kept-one l act (ap calm asks));
  unentered = none_of-append (enters s.0) xs (act ∷ []) before.unentered
      (ap (λ b. b || false) (not_entering s.0 act (ap calm asks)));
  removed = λ j below. by_side act asks j below (nat_lt j i) refl;
}
  where
    by_side : (act : Act) → question_of act ≡ Question.remove s i → (j : ℕ) → j < i + 1 → (b : Bool) → nat_lt j i ≡ b
        → has (removes s.0 j) (xs ++ act ∷ []) ≡ true
    by_side act asks j below true low = has-first (removes s.0 j) xs (act ∷ []) (before.removed j (ltb-true j i low))
    by_side act asks j below false high =
        let above : i ≤ j = ltb-false j i high in
        let same : i ≡ j = omega (arith, above, below) in
        subst (λ (k : ℕ). has (removes s.0 k) (xs ++ act ∷ []) ≡ true) same
        (has-second (removes s.0 i) xs (act ∷ []) (ap (λ b. b || false) (remove-removes s i act asks)))

keys_removed : (l : Limits) (s : SelNo) → Always (λ acts _. Kept l (Enter s None ∷ acts)) (remove_keys s)
keys_removed l s = λ looked asks. by_act looked asks
  where
    by_act : (looked : Act) → question_of looked ≡ Question.look_keys s
        → Always (λ acts _. Kept l (Enter s None ∷ looked ∷ acts))
        (sweep_to (number_in (answer_of looked)) 0 (λ i _. remove_key s i) tt >>= λ _. reply closed)
    by_act (LookKeys s' bound) asks =
        always_bind (λ acts _. Removed l s bound acts) (λ acts _. Kept l (Enter s None ∷ LookKeys s' bound ∷ acts))
        (sweep_to bound 0 (λ i _. remove_key s i) tt) (λ _. reply closed)
        (always_sweep (λ i acts _. Removed l s i acts) bound 0 (λ i _. remove_key s i) tt (omega arith)
        (record { kept = kept-none l; unentered = refl; removed = λ i below. absurd (omega arith) })
        (λ i ys _ low high before. removes_one l s i ys before))
        (λ acts _ removed. subst (λ xs. Kept l (Enter s None ∷ LookKeys s' bound ∷ xs)) (sym (append-nil acts))
        (kept-entering l s (LookKeys s' bound ∷ acts)
        (kept-append l (LookKeys s' bound ∷ []) acts (kept-one l (LookKeys s' bound) refl) removed.kept)
        removed.unentered
        (λ i. ap (λ b. if b then (b && nat_lt i bound) && not (has (removes s.0 i) acts)
        else owes (clearing_duty s.0 i) acts) here ∙ by_side acts removed i (nat_lt i bound) refl)))
      where
        here : (s'.0 == s.0) ≡ true
        here = let same : s' ≡ s = cc asks in ap (λ (x : SelNo). x.0 == s.0) same ∙ same_number s.0

        by_side : (acts : List Act) → Removed l s bound acts → (i : ℕ) (b : Bool) → nat_lt i bound ≡ b
            → (b && not (has (removes s.0 i) acts)) ≡ false
        by_side acts removed i true low = ap not (removed.removed i (ltb-true i bound low))
        by_side acts removed i false high = refl
    by_act _ asks = absurd (cc asks)

pub try_finish-keeps : {l : Limits} (s : SelNo) → Walks (keeping l) (try_finish_plan s)
unfolding try_finish_plan
try_finish-keeps {l = l} s = record { always = λ act asks. by_act act asks }
  where
    by_act : (act : Act) → question_of act ≡ Question.enter s
        → Always (λ acts _. Kept l (act ∷ acts))
        (if is_some (holder_in (answer_of act)) then reply busy else remove_keys s)
    by_act (Enter s' (Some n)) asks = kept-calm l (Enter s' (Some n) ∷ []) refl
    by_act (Enter s' None) asks =
        let same : s' ≡ s = cc asks in
        subst (λ (t : SelNo). Always (λ acts _. Kept l (Enter t None ∷ acts)) (remove_keys s)) (sym same)
        (keys_removed l s)
    by_act _ asks = absurd (cc asks)
