-- A beginning with the list, in a legal history with no event of another caller between, amounts to the documented one.
use Rattle.std.proofs.Common.{◌≡◌, ℕ, zero, suc, ◌+◌, ◌-◌, ◌*◌, ◌/◌, ◌<◌, ◌≤◌, ◌==◌, nat_lt, Bool, true, false}
use Rattle.std.proofs.Common.{not, ◌&&◌, Some, None, Result, Ok, List, [], ◌∷◌, ◌++◌, map}
use Rattle.std.proofs.Common.{filter, refl, ap, sym, ◌∙◌, subst, arith, eq-eqb}
use Rattle.std.specs.List.{All, Contains}
use Rattle.std.proofs.lemmas.Bool.{both_ways, false_from_ne_true, lt-ltb, le-ltb, ltb-true}
use Rattle.std.proofs.lemmas.List.{append-nil}
use Rattle.std.proofs.lemmas.List.Elements.{All-weaker, filter-append}
use Rattle.nio_base.specs.Limits.{IsFit}
use Rattle.nio_base.specs.declared.limits.Limits.{Limits}
use Rattle.nio_base.specs.declared.numbers.CallerNo.{CallerNo}
use Rattle.nio_base.specs.declared.numbers.SelNo.{SelNo}
use Rattle.nio_history.proofs.Legal.{legal_beginning, legal_next}
use Rattle.nio_history.proofs.OneMore.{mine-append}
use Rattle.nio_history.proofs.RightLists.{lists_are_right}
use Rattle.nio_history.proofs.Stays.{facts_are_permanent}
use Rattle.nio_history.specs.Answers.{is_pinned}
use Rattle.nio_history.specs.Conditions.{IsCaller, has_list}
use Rattle.nio_history.specs.Histories.{state_after, mine, event_of, IsLegal}
use Rattle.nio_history.specs.Lists.{entry, IsRight}
use Rattle.nio_history.specs.Permanent.{below_keys_high}
use Rattle.nio_history.specs.Sets.{in_key_set, in_cancelled_set, is_valid}
use Rattle.nio_history.specs.State.{State, with_turn, with_begun}
use Rattle.nio_history.specs.declared.act.Act.{Act}
use Rattle.nio_history.specs.declared.act.Act.TheVariants.{LookKeys}
use Rattle.nio_history.specs.declared.event.Event.{Event}
use Rattle.nio_history.specs.declared.found.Mode.{Mode}
use Rattle.nio_history.specs.declared.found.Stage.{Stage}
use Rattle.nio_orderly.proofs.CallLists.{mine-by}
use Rattle.nio_plain.specs.Seq.Names.{below}
use Rattle.nio_language.specs.declared.call.Call.TheVariants as call
use Rattle.nio_plain.proofs.Naming.{selector-through}
use Rattle.nio_plain.specs.Seq.{call_of, seq}
use Rattle.nio_plain.specs.Seq.Replies.{Replied}
use Rattle.nio_plain.specs.Seq.Selections.{mode_of, looked_keys, without_cancelled, begun_with, begin_call}
use Rattle.nio_plain.specs.declared.rules.Rules.TheVariants.{Now}
use Rattle.nio_steps.proofs.ListedBy.{beginnings_list}
use Rattle.nio_steps.proofs.OwnActs.{at_own}
use Rattle.nio_steps.proofs.PerformLaws.{perform_ran, indexes}
use Rattle.nio_steps.specs.ChannelCalls.{words_below}
use Rattle.nio_steps.specs.Lists.{IsListOf, IsFoundBelow, KnowsList}
use Rattle.nio_steps.specs.Looking.{looked_key}
use Rattle.nio_steps.specs.Perform.{Performed, perform}
use Rattle.nio_steps.specs.Runs.{Completes}
use Rattle.nio_steps.specs.SelectCalls.{Selection, try_begin_plan}
use Rattle.nio_steps.specs.Steps.{number_in}
use Rattle.nio_steps.specs.declared.looked.LookedKey.{LookedKey}
use Rattle.nio_steps.specs.declared.refusal.BeginError.{BeginError}
use Rattle.nio_serial.proofs.Claiming.{unpinned-none}
use Rattle.nio_serial.proofs.Facts.{sound, none_due, untaken, published, free, unpinned}
use Rattle.nio_serial.proofs.Finding.{indexes-below}
use Rattle.nio_serial.proofs.FreeWords.{below-indexes, filter-none, filter-same}
use Rattle.nio_serial.proofs.Histories.{seq-through}
use Rattle.nio_serial.proofs.ListedBeginning.{looked, left, begun, left-key, state-is, listed-performed, listed-cases}
use Rattle.nio_serial.proofs.ListedBeginning.{listed-amounts, listed-touched, listed-here}
use Rattle.nio_serial.proofs.Resting.{rests-from, rests-is}
use Rattle.nio_serial.proofs.RestingCalls.{rests-seq}
use Rattle.nio_serial.proofs.Showing.{ShowsBy, shows-selection}
use Rattle.nio_serial.proofs.RisingLists.{rising-from}
use Rattle.nio_serial.proofs.TakenWords.{taken-clear}
use Rattle.nio_serial.specs.Between.{IsBetween, IsOn, IsLeft, line as line_left, IsAtRest}
use Rattle.nio_serial.specs.Called.{waiting_of}
use Rattle.nio_serial.specs.Documented.{Progress, Selecting, settled_state, looked_pair, documented, amounts}
use Rattle.nio_serial.specs.Laws.{IsMadeSelector, Amounts}
use Rattle.nio_serial.specs.Lines.{after_begin}
use Rattle.nio_serial.specs.Replies.{begin_reply}

pub mode_through : (mode : Mode) → mode_of (waiting_of mode) ≡ Some mode
mode_through Mode.Now = refl
mode_through Mode.Wait = refl
mode_through (Mode.For ms) = refl

-- a mark that a caller found is the high-water mark, or below it
found_high : (l : Limits) (n : CallerNo) (events : List Event) (s : SelNo) (mark : ℕ) → IsLegal l events
    → Contains (mine n events) (LookKeys s mark) → mark ≤ (state_after events).keys_high s.0
found_high l n events s zero legal there = omega arith
found_high l n events s (suc m) legal there =
    let at = at_own n events (LookKeys s (suc m)) there in
    let e = event_of n (LookKeys s (suc m)) in
    let parted = subst (IsLegal l) at.parts legal in
    let step = legal_next l at.past e at.later parted in
    let is : suc m ≡ (state_after at.past).keys_high s.0 = ap (λ x. number_in x) step.answers in
    let then_below : nat_lt m ((state_after at.past).keys_high s.0) ≡ true =
    lt-ltb m ((state_after at.past).keys_high s.0) (omega (arith, is)) in
    let now_below = facts_are_permanent l at.past events (e ∷ at.later, sym at.parts) legal (below_keys_high s.0 m)
    then_below in
    let low : m < (state_after events).keys_high s.0 = ltb-true m ((state_after events).keys_high s.0) now_below in
    omega (arith, low)

pairs-of : (f : ℕ → LookedKey) (xs : List ℕ) → map looked_pair (map f xs) ≡ map (λ i. looked_pair (f i)) xs
pairs-of f [] = refl
pairs-of f (x ∷ xs) = ap (λ ys. looked_pair (f x) ∷ ys) (pairs-of f xs)

-- what the caller did, with this
mine-more : (n : CallerNo) (past : List Event) (acts : List Act)
    → mine n (past ++ map (event_of n) acts) ≡ mine n past ++ acts
mine-more n past acts =
    mine-append n past (map (event_of n) acts)
    ∙ ap (λ xs. mine n past ++ xs) (mine-by n n acts true (eq-eqb n.0 n.0 refl))

module _ (l : Limits) (past : List Event) (now : Progress) (me : CallerNo) (fit : IsFit l)
    (between : IsBetween l (state_after past) now) (s : SelNo) (mode : Mode) (known : List LookedKey)
    (knows : KnowsList l me past s known) (acts : List Act)
    (answer : Result Selection BeginError) (legal : IsLegal l (past ++ map (event_of me) acts))
    (run : Completes (try_begin_plan s mode (Some known) false) acts answer) where
  abbrev st : State
  st = state_after past

  abbrev after : List Event
  after = past ++ map (event_of me) acts

  pub none_pinned : (i : ℕ) → is_pinned st s.0 i ≡ false
  none_pinned i = ap (λ n. not (n == 0)) (unpinned-none 64 (st.pinned s.0 i) (λ k. unpinned l st now between s.0 i k))

  -- a selector that isn't shut hasn't been entered
  not_entered : (st.gate s.0).shut ≡ false → st.entered s.0 ≡ false
  not_entered not_shut =
      false_from_ne_true (st.entered s.0)
      (λ h. both_ways (st.gate s.0).shut not_shut (((sound l st now between).closings s.0).entered_shut h))

  -- each key of the cancelled set is touched
  pub all_touched : (st.gate s.0).shut ≡ false → (i : ℕ) → in_cancelled_set (st.key s.0 i) ≡ true
      → st.touched s.0 i ≡ true
  all_touched not_shut i cancelled = by_test (st.touched s.0 i) refl
    where
      by_test : (b : Bool) → st.touched s.0 i ≡ b → b ≡ true
      by_test true is = refl
      by_test false is =
          absurd (both_ways (in_cancelled_set (st.key s.0 i))
          (lists_are_right l me s i past fit (legal_beginning l past (map (event_of me) acts) legal) knows.had
          (not_entered not_shut) is (knows.right.whole i)).not_cancelled cancelled)

  abbrev its_left : State
  its_left = left st now me s (none_due l st now between s.0) (untaken l st now between s.0)
      (published l st now between s.0) (free l st now between s.0) none_pinned all_touched known

  abbrev its_looked : List LookedKey
  its_looked = looked st now me s (none_due l st now between s.0) (untaken l st now between s.0)
      (published l st now between s.0) (free l st now between s.0) none_pinned all_touched known

  abbrev its_begun : Selection
  its_begun = begun st now me s (none_due l st now between s.0) (untaken l st now between s.0)
      (published l st now between s.0) (free l st now between s.0) none_pinned all_touched known mode

  module _ (no_turn : st.turn s.0 ≡ None) (not_shut : (st.gate s.0).shut ≡ false) where
    performed : ◌≡◌ {A = Performed (Result Selection BeginError)} (record {
      answer = answer;
      state = state_after after;
    }) (record { answer = Ok its_begun; state = its_left })
    performed =
        sym (perform_ran l me (try_begin_plan s mode (Some known) false) past acts answer legal run)
        ∙ listed-performed st now me s (none_due l st now between s.0) (untaken l st now between s.0)
        (published l st now between s.0) (free l st now between s.0) none_pinned all_touched known mode no_turn not_shut

    left_is : state_after after ≡ its_left
    left_is = ap (λ (p : Performed (Result Selection BeginError)). p.state) performed

    -- what it has then is its list
    pub is_list : IsListOf (mine me after) s its_looked
    is_list =
        subst (λ xs. IsListOf xs s its_looked) (sym (mine-more me past acts))
        (beginnings_list s mode known (mine me past) acts its_begun knows.right
        (subst (λ (a : Result Selection BeginError). Completes (try_begin_plan s mode (Some known) false) acts a)
        (ap (λ (p : Performed (Result Selection BeginError)). p.answer) performed) run))

    abbrev words : ℕ
    words = words_below (st.keys_high s.0)

    -- and is right in the words that it took
    right_there : (i : ℕ) → i < 64 * words → IsRight its_left s i (entry s.0 i (mine me after))
    right_there i low =
        subst (λ (x : State). IsRight x s i (entry s.0 i (mine me after))) left_is
        (lists_are_right l me s i after fit legal
        (subst (λ (x : State). has_list x me s ≡ true) (sym left_is) knows.had)
        (subst (λ (x : State). x.entered s.0 ≡ false) (sym left_is) (not_entered not_shut))
        (subst (λ (x : State). x.touched s.0 i ≡ false) (sym left_is)
        (taken-clear (with_begun (with_turn st s.0 (Some me)) s.0 true) s words i low))
        (is_list.whole i))

    abbrev valid : ℕ → Bool
    valid i = is_valid (its_left.key s.0 i)

    abbrev key_there : ℕ → LookedKey
    key_there i = looked_key i (its_left.key s.0 i) (its_left.interest s.0 i)

    within : All (λ e. e.index < 0 + 64 * words) its_looked
    within =
        All-weaker (λ (e : LookedKey). IsFoundBelow (mine me after) s e.index)
        (λ (e : LookedKey). e.index < 0 + 64 * words)
        (λ e found.
        let high = found_high l me after s found.mark legal found.found in
        let low : found.mark ≤ st.keys_high s.0 =
        subst (λ (x : State). found.mark ≤ x.keys_high s.0) left_is high in
        let below' : e.index < 64 * ((found.mark + 63) / 64) = found.below in
        omega (arith, low, below')) its_looked is_list.below

    all_of_words : its_looked ≡ map key_there (filter valid (indexes 0 (64 * words)))
    all_of_words =
        rising-from valid key_there (λ _. refl) (64 * words) 0 its_looked is_list.rise
        (All-weaker (λ (e : LookedKey). e.index < 0 + 64 * words) (λ (e : LookedKey). 0 ≤ e.index)
        (λ e _. omega arith) its_looked within) within
        (λ i _ low. is_list.entries i ∙ (right_there i (omega (arith, low))).stands)

    unpublished : (p r c : Bool) → p ≡ false → ((p && not r) && not c) ≡ false
    unpublished true r c is = absurd (cc is)
    unpublished false r c is = refl

    -- an index above the high-water mark has no valid key
    above_invalid : (i : ℕ) → st.keys_high s.0 ≤ i → valid i ≡ false
    above_invalid i high =
        let k = st.key s.0 i in
        let none : k.published ≡ false = published l st now between s.0 i ∙ le-ltb i (st.keys_high s.0) high in
        left-key st now me s (none_due l st now between s.0) (untaken l st now between s.0)
        (published l st now between s.0) (free l st now between s.0) none_pinned all_touched known i
        (λ x. is_valid x ≡ false)
        (unpublished k.published true k.cancelled none) (unpublished k.published k.removed k.cancelled none)

    covers : st.keys_high s.0 ≤ 64 * words
    covers = let enough : st.keys_high s.0 ≤ 64 * ((st.keys_high s.0 + 63) / 64) = omega arith in enough

    abbrev in_set : ℕ → Bool
    in_set i = in_key_set (its_left.key s.0 i)

    valid_is : (i : ℕ) → i < st.keys_high s.0 → valid i ≡ in_set i
    valid_is i low =
        stays (in_set i) (its_left.key s.0 i).cancelled
        (right_there i (omega (arith, low, covers))).not_cancelled
      where
        stays : (in_set' c : Bool) → (in_set' && c) ≡ false → (in_set' && not c) ≡ in_set'
        stays true true is = absurd (cc is)
        stays true false is = refl
        stays false c is = refl

    valid_below : filter valid (indexes 0 (64 * words)) ≡ filter in_set (below (st.keys_high s.0))
    valid_below =
        let rest = 64 * words - st.keys_high s.0 in
        let all : 64 * words ≡ st.keys_high s.0 + rest = omega (arith, covers) in
        ap (filter valid) (indexes-below (64 * words) ∙ (ap below all ∙ below-indexes (st.keys_high s.0) rest))
        ∙ (filter-append valid (below (st.keys_high s.0)) (indexes (st.keys_high s.0) rest)
        ∙ (ap (λ xs. filter valid (below (st.keys_high s.0)) ++ xs)
        (filter-none valid (st.keys_high s.0) rest above_invalid)
        ∙ (append-nil (filter valid (below (st.keys_high s.0)))
        ∙ filter-same valid in_set (st.keys_high s.0) valid_is)))

    -- so it looks at the key set
    pub looked_is : map looked_pair its_looked ≡ looked_keys (settled_state its_left) s.0
    looked_is =
        ap (map looked_pair) all_of_words
        ∙ (pairs-of key_there (filter valid (indexes 0 (64 * words)))
        ∙ ap (map (λ i. looked_pair (key_there i))) valid_below)

    pub shown_is : map looked_pair its_looked ≡ looked_keys (without_cancelled Now (documented st now).shared s.0) s.0
    shown_is =
        looked_is
        ∙ ap (λ (x : State). looked_keys x s.0)
        (state-is st now me s (none_due l st now between s.0) (untaken l st now between s.0)
        (published l st now between s.0) (free l st now between s.0) none_pinned all_touched known not_shut)

  -- a cancelled key was published
  whole : (i : ℕ) → (st.key s.0 i).cancelled ≡ true → (st.key s.0 i).published ≡ true
  whole i cancelled = by_high (nat_lt i (st.keys_high s.0)) refl
    where
      k : Stage
      k = st.key s.0 i

      by_high : (b : Bool) → nat_lt i (st.keys_high s.0) ≡ b → k.published ≡ true
      by_high true low = published l st now between s.0 i ∙ low
      by_high false above =
          let key = (between.at_rest.high.fresh s.0 i above).key in
          let present : k.removed ≡ false = ap (λ (x : Stage). x.removed) key in
          let none : k.cancelled ≡ false = (λ j. not (sym present j) && k.cancelled)
          ∙ ap (λ (x : Stage). x.cancelled) key in
          absurd (both_ways k.cancelled none cancelled)

  abbrev done : Performed (Result Selection BeginError)
  done = perform me (try_begin_plan s mode (Some known) false) st

  -- the reply and the state of the documented call
  listed-amount : IsMadeSelector st s → call_of Now l (documented st now) me (call.Begin s (waiting_of mode))
      ≡ amounts begin_reply (after_begin now me s) done
  unfolding call_of begin_call
  listed-amount made =
      selector-through (documented st now) s made _
      ∙ (ap (λ o. begun_with Now (documented st now) me s.0 o) (mode_through mode)
      ∙ listed-amounts st now me s (none_due l st now between s.0) (untaken l st now between s.0)
      (published l st now between s.0) (free l st now between s.0) none_pinned all_touched known
      (λ no_turn not_shut. shown_is no_turn not_shut) mode)

  listed-shows : ShowsBy (after_begin now me s) done
  listed-shows =
      listed-cases st now me s (none_due l st now between s.0) (untaken l st now between s.0)
      (published l st now between s.0) (free l st now between s.0) none_pinned all_touched known mode
      (ShowsBy (after_begin now me s)) between.shown between.shown
      (λ no_turn not_shut. shows-selection l st now me between its_left s
      (Some (record { caller = me; selection = its_begun })) refl refl refl refl
      (listed-touched st now me s (none_due l st now between s.0) (untaken l st now between s.0)
      (published l st now between s.0) (free l st now between s.0) none_pinned all_touched known not_shut whole)
      (λ y e. let same : record { caller = me; selection = its_begun } ≡ y = cc e in
      subst (λ (z : Selecting). IsOn s.0 z.selection) same
      (record { selector = refl; rises = (is_list no_turn not_shut).rise }))
      (λ y e listed. listed-here st now me s (none_due l st now between s.0) (untaken l st now between s.0)
      (published l st now between s.0) (free l st now between s.0) none_pinned all_touched known not_shut whole))

  pub listed-runs-amount : IsCaller l me → IsMadeSelector st s
      → Amounts l (call_of Now l (documented st now) me (call.Begin s (waiting_of mode))) after
      (record { reply = begin_reply answer; left = after_begin now me s answer })
  listed-runs-amount by made =
      let ds = documented st now in
      let word = call.Begin s (waiting_of mode) in
      let same : seq Now l ds me word ≡ amounts begin_reply (after_begin now me s) done =
      seq-through l ds me word by ∙ listed-amount made in
      let ran = perform_ran l me (try_begin_plan s mode (Some known) false) past acts answer legal run in
      record {
        replied = listed-amount made ∙ ap (amounts begin_reply (after_begin now me s)) ran;
        between =
            subst (λ (p : Performed (Result Selection BeginError)). IsBetween l p.state (after_begin now me s p.answer))
            ran
            (record {
              left = subst (λ (a : Replied). IsLeft l a.left) same (line_left ds me word between.left);
              at_rest =
                  subst (λ (a : Replied). IsAtRest l a.left.shared) same
                  (rests-is l (seq Now l ds me word).left.shared (rests-seq l ds (sound l st now between)
                  (rests-from l ds.shared between.at_rest) me word));
              shown = listed-shows;
            });
      }
