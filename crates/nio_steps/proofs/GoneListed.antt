-- A key that was cancelled before a selection with the list begins is gone when it has begun, and one that was cancelled
-- before its end looks for such keys is gone when it is over.
use Rattle.std.proofs.Common.{◌≡◌, ℕ, ◌/◌, ◌%◌, Bool, true, false, not, ◌&&◌, List, [], ◌∷◌, ◌++◌, refl}
use Rattle.std.proofs.Common.{ap, sym, ◌∙◌, subst, append_assoc, eq-eqb, arith, ◌<◌}
use Rattle.std.specs.Prelude.{⊤}
use Rattle.std.specs.List.{All, Contains}
use mathlib.Core.List.{IsPrefix}
use Rattle.std.proofs.lemmas.Bool.{or_from}
use Rattle.std.proofs.lemmas.List.Elements.{All-weaker}
use Rattle.nio_base.specs.declared.limits.Limits.{Limits}
use Rattle.nio_base.specs.declared.numbers.CallerNo.{CallerNo}
use Rattle.nio_base.specs.declared.numbers.SelNo.{SelNo}
use Rattle.nio_history.proofs.Legal.{legal_beginning}
use Rattle.nio_history.proofs.OneMore.{mine-append, has_none-append}
use Rattle.nio_history.proofs.Stays.{only_itself_gives_back}
use Rattle.nio_history.specs.Answers.{touched_word}
use Rattle.nio_history.specs.Conditions.{has_begun}
use Rattle.nio_history.specs.Histories.{state_after, mine, event_of, IsLegal}
use Rattle.nio_history.specs.OwnEvents.{has, gives_turn}
use Rattle.nio_history.specs.Permanent.{a_selection}
use Rattle.nio_history.specs.Sets.{in_cancelled_set, in_key_set, is_valid, was_published, was_cancelled, was_removed}
use Rattle.nio_history.specs.declared.act.Act.{Act}
use Rattle.nio_history.specs.declared.act.Act.TheVariants.{LookKeys, LookTouched, LookIndex, Remove}
use Rattle.nio_history.specs.declared.event.Event.{Event}
use Rattle.nio_history.specs.declared.found.IndexWord.{IndexWord}
use Rattle.nio_history.specs.declared.found.Stage.{Stage}
use Rattle.nio_steps.proofs.EachLaws.{each_run}
use Rattle.nio_steps.proofs.EndListed.{SettledEnd, is_untouched, is_settled, listed_end-settles}
use Rattle.nio_steps.proofs.Enlisted.{entry_stands, listed_there}
use Rattle.nio_steps.proofs.GoneLaws.{outside_since, other_since, settled-gone, step_in}
use Rattle.nio_steps.proofs.IndexOutcomes.{IsClear, IsLeft, Outcome, is_clear, is_removed, is_found, is_outside}
use Rattle.nio_steps.proofs.IndexOutcomes.{FoundListed, begin-outcome}
use Rattle.nio_steps.proofs.Lists.{contains-middle, parted}
use Rattle.nio_steps.proofs.LookedLaws.{Settled, is_gone, met-left, met-right}
use Rattle.nio_steps.proofs.OwnActs.{mine-own_first}
use Rattle.nio_steps.proofs.OwnSteps.{step_at}
use Rattle.nio_steps.proofs.Relisted.{as_listed}
use Rattle.nio_steps.proofs.SelectionAsks.{each_remove_below}
use Rattle.nio_steps.proofs.SelectionLaws.{NoGive, asks_give, no_gives, not-gives, none_of-append, marks-no_give}
use Rattle.nio_steps.proofs.StandLaws.{selections_stand}
use Rattle.nio_steps.proofs.StoodMoments.{IsOpened, clear-right, contained, legal_whole, moment_parts, moment_begins}
use Rattle.nio_steps.proofs.StoodMoments.{cut_call}
use Rattle.nio_steps.proofs.ToldParts.{CutAtKeys, cut_at_keys}
use Rattle.nio_steps.proofs.Unlisted.{other_calls_leave_list}
use Rattle.nio_steps.proofs.WhereUntouched.{clear_untouched, untouched_stands}
use Rattle.nio_steps.specs.ChannelCalls.{words_below}
use Rattle.nio_steps.specs.KeyCalls.{has_bit}
use Rattle.nio_steps.specs.ListLaws.{lists_index, CancelledListedKeysGo, CancelledListedKeysGoAtEnd}
use Rattle.nio_steps.specs.Lists.{KnowsList, listed_at}
use Rattle.nio_steps.specs.Looking.{remove_below}
use Rattle.nio_steps.specs.Runs.{Completes}
use Rattle.nio_steps.specs.SelectCalls.{Selection, Poll, Tells, ToldReply, done}
use Rattle.nio_steps.specs.Selections.{IsBegun}
use Rattle.nio_steps.specs.Steps.{index_in, word_in}
use Rattle.nio_steps.specs.TableCalls.{told}
use Rattle.nio_steps.specs.declared.looked.LookedKey.{LookedKey}
use Rattle.nio_steps.specs.declared.selected.Selected.{Selected}

-- ---- what a `told` does till its end

-- it takes no bit, and looks at no index as a beginning does
told-unlisted : (l : Limits) (selection : Selection) (poll : Poll) (acts : List Act) (answer : ToldReply) (s : SelNo)
    (i : ℕ) → Tells selection poll acts answer → has (lists_index s.0 i) acts ≡ false
told-unlisted l selection poll acts answer s i run =
    other_calls_leave_list l false (told selection poll) acts answer s i (λ mode known same. absurd (cc same)) run

module _ (selection : Selection) (poll : Poll) (third fourth : List Act) (mark : ℕ)
    (cut : CutAtKeys selection poll third mark fourth) where
  third-gives_none : has (gives_turn selection.selector.0) third ≡ false
  third-gives_none =
      let s = selection.selector in
      ap (has (gives_turn s.0)) cut.before
      ∙ none_of-append (gives_turn s.0) cut.ended.marks (cut.ended.gate ∷ cut.ended.status ∷ [])
      (marks-no_give s poll.pairs selection.looked cut.ended.marks cut.ended.marked cut.ended.runs_marks)
      (or_from _ _ (not-gives s.0 cut.ended.gate (ap (asks_give s.0) cut.ended.asks_gate))
      (or_from _ _ (not-gives s.0 cut.ended.status (ap (asks_give s.0) cut.ended.asks_status)) refl))

  sweeps-gives_none : has (gives_turn selection.selector.0) cut.ended.sweeps ≡ false
  sweeps-gives_none =
      let s = selection.selector in
      no_gives s.0 cut.ended.sweeps
      (each_run (NoGive s.0) (λ _. ⊤) (remove_below s mark selection.listed) cut.ended.sweeps tt
      (each_remove_below (NoGive s.0) s mark selection.listed
      (record {
        frees = λ _. refl;
        touched = λ _. refl;
        takes = λ _. refl;
        at = λ _. record {
          looks = refl;
          looks_interest = refl;
          removes = refl;
          puts = refl;
          looks_index = refl;
          touches = refl;
        };
      })) cut.runs_sweeps).0

-- ---- the end

-- the caller selects with the list, and found the index not touched as the selection ended
module _ (l : Limits) (n : CallerNo) (before looked later : List Event) (selection : Selection) (mark i serial : ℕ)
    (legal : IsLegal l ((before ++ looked) ++ event_of n (LookKeys selection.selector mark) ∷ later))
    (begun : IsBegun (mine n before) selection) (knows : KnowsList l n before selection.selector selection.looked) where
  abbrev call : List Event
  call = event_of n (LookKeys selection.selector mark) ∷ later

  untouched-outside : (xs : List Act) (word : ℕ) (ys : List Act)
      → mine n call ≡ (LookKeys selection.selector mark ∷ xs) ++ LookTouched selection.selector (i / 64) word ∷ ys
      → has_bit word (i % 64) ≡ false
      → has (lists_index selection.selector.0 i) (mine n looked) ≡ false
      → has (lists_index selection.selector.0 i) xs ≡ false
      → has (gives_turn selection.selector.0) (mine n looked) ≡ false
      → has (gives_turn selection.selector.0) xs ≡ false
      → was_published ((state_after (before ++ looked)).key selection.selector.0 i) serial ≡ true
      → was_cancelled ((state_after (before ++ looked)).key selection.selector.0 i) serial ≡ true
      → was_removed ((state_after ((before ++ looked) ++ call)).key selection.selector.0 i) serial ≡ true
  untouched-outside xs word ys own clear lists_looked lists_xs gives_looked gives_xs published cancelled =
      let s = selection.selector in
      let act = LookTouched s (i / 64) word in
      let at = step_at l n (before ++ looked) call (LookKeys s mark ∷ xs) act ys legal own in
      let more = looked ++ at.past in
      let joined : before ++ more ≡ (before ++ looked) ++ at.past = sym (append_assoc before looked at.past) in
      let legal' : IsLegal l (before ++ more) = subst (IsLegal l) (sym joined) at.legal_past in
      let st = state_after (before ++ more) in
      let acts : mine n more ≡ mine n looked ++ LookKeys s mark ∷ xs = mine-append n looked at.past
      ∙ ap (λ zs. mine n looked ++ zs) at.own_past in
      let lists_none : has (lists_index s.0 i) (mine n more) ≡ false = ap (has (lists_index s.0 i)) acts
      ∙ none_of-append (lists_index s.0 i) (mine n looked) (LookKeys s mark ∷ xs) lists_looked lists_xs in
      let gives_none : has (gives_turn s.0) (mine n more) ≡ false = ap (has (gives_turn s.0)) acts
      ∙ none_of-append (gives_turn s.0) (mine n looked) (LookKeys s mark ∷ xs) gives_looked gives_xs in
      let stands : has_begun st n s ≡ true = only_itself_gives_back l n before more legal' (a_selection s) gives_none
      (selections_stand l n before selection (legal_beginning l before more legal') begun) in
      let is : word ≡ touched_word (state_after ((before ++ looked) ++ at.past)) s.0 (i / 64) = ap word_in at.step.answers in
      let untouched : st.touched s.0 i ≡ false = clear_untouched st s.0 i word
      (is ∙ ap (λ events. touched_word (state_after events) s.0 (i / 64)) (sym joined)) clear in
      let right = untouched_stands l n s i selection.looked before more knows legal' lists_none stands untouched in
      outside_since l n (before ++ looked) call s i serial legal published cancelled ((before ++ looked) ++ at.past)
      (event_of n act ∷ at.rest) at.whole (at.past, refl) at.legal_past
      (ap (λ events. in_cancelled_set ((state_after events).key s.0 i)) (sym joined) ∙ right.not_cancelled)

-- also where the index isn't below the mark, but in a word that has an index below it
pub cancelled_keys_go_by_words : (l : Limits) (n : CallerNo) (before looked later : List Event) (selection : Selection)
    (poll : Poll) (answer : Selected) (mark i serial : ℕ)
    → let s = selection.selector in
    let call = looked ++ event_of n (LookKeys s mark) ∷ later in
    IsLegal l (before ++ call) → IsBegun (mine n before) selection → selection.listed ≡ true
    → KnowsList l n before s selection.looked → Tells selection poll (mine n call) (done answer)
    → was_published ((state_after (before ++ looked)).key s.0 i) serial ≡ true
    → was_cancelled ((state_after (before ++ looked)).key s.0 i) serial ≡ true
    → i / 64 < words_below mark
    → was_removed ((state_after (before ++ call)).key s.0 i) serial ≡ true
cancelled_keys_go_by_words l n before looked later selection poll answer mark i serial legal begun listed knows run
    published cancelled below =
    let s = selection.selector in
    let e = event_of n (LookKeys s mark) in
    let first : mine n (e ∷ later) ≡ LookKeys s mark ∷ mine n later = mine-own_first n e later (eq-eqb n.0 n.0 refl) in
    let own : mine n (looked ++ e ∷ later) ≡ mine n looked ++ LookKeys s mark ∷ mine n later = mine-append n looked
    (e ∷ later) ∙ ap (λ xs. mine n looked ++ xs) first in
    let tells = subst (λ xs. Tells selection poll xs (done answer)) own run in
    let cut = cut_at_keys selection poll (mine n looked) mark (mine n later) answer tells in
    let sweeps = cut.ended.sweeps in
    let runs : Completes (remove_below s mark true) sweeps tt
    = subst (λ b. Completes (remove_below s mark b) sweeps tt) listed cut.runs_sweeps in
    let unlisted = has_none-append (lists_index s.0 i) (mine n looked) (LookKeys s mark ∷ mine n later)
    (told-unlisted l selection poll (mine n looked ++ LookKeys s mark ∷ mine n later) (done answer) s i tells) in
    let joined : (before ++ looked) ++ e ∷ later ≡ before ++ (looked ++ e ∷ later) = append_assoc before looked
    (e ∷ later) in
    subst (λ events. was_removed ((state_after events).key s.0 i) serial ≡ true) joined
    (by_settled cut (subst (IsLegal l) (sym joined) legal) (first ∙ ap (λ xs. LookKeys s mark ∷ xs) cut.after)
    unlisted.0 unlisted.1 (listed_end-settles s i mark sweeps runs below))
  where
    by_settled : (cut : CutAtKeys selection poll (mine n looked) mark (mine n later))
        → IsLegal l ((before ++ looked) ++ event_of n (LookKeys selection.selector mark) ∷ later)
        → mine n (event_of n (LookKeys selection.selector mark) ∷ later)
        ≡ LookKeys selection.selector mark ∷ (cut.ended.sweeps ++ cut.ended.wake ∷ cut.ended.gives ∷ [])
        → has (lists_index selection.selector.0 i) (mine n looked) ≡ false
        → has (lists_index selection.selector.0 i) (mine n later) ≡ false
        → SettledEnd selection.selector i cut.ended.sweeps
        → was_removed
        ((state_after ((before ++ looked) ++ event_of n (LookKeys selection.selector mark) ∷ later)).key
        selection.selector.0 i) serial ≡ true
    by_settled cut legal' own lists_looked lists_later (is_settled settled) =
        let s = selection.selector in
        settled-gone l n (before ++ looked) (event_of n (LookKeys s mark) ∷ later) s i serial legal' published cancelled
        (subst (Settled s i) (sym own)
        (met-right s i (LookKeys s mark ∷ []) (cut.ended.sweeps ++ cut.ended.wake ∷ cut.ended.gives ∷ [])
        (met-left s i cut.ended.sweeps (cut.ended.wake ∷ cut.ended.gives ∷ []) settled)))
    by_settled cut legal' own lists_looked lists_later (is_untouched word look clear) =
        let s = selection.selector in
        let act = LookTouched s (i / 64) word in
        let at = parted cut.ended.sweeps act look in
        let ends = cut.ended.wake ∷ cut.ended.gives ∷ [] in
        let swept : cut.ended.sweeps ++ ends ≡ at.past ++ act ∷ (at.later ++ ends)
        = ap (λ xs. xs ++ ends) at.parts ∙ append_assoc at.past (act ∷ at.later) ends in
        let lists = has_none-append (lists_index s.0 i) at.past (act ∷ (at.later ++ ends))
        (ap (has (lists_index s.0 i)) (sym (cut.after ∙ swept)) ∙ lists_later) in
        let gives = has_none-append (gives_turn s.0) at.past (act ∷ at.later)
        (ap (has (gives_turn s.0)) (sym at.parts)
        ∙ sweeps-gives_none selection poll (mine n looked) (mine n later) mark cut) in
        untouched-outside l n before looked later selection mark i serial legal' begun knows at.past word
        (at.later ++ ends) (own ∙ ap (λ xs. LookKeys s mark ∷ xs) swept) clear lists_looked lists.0
        (third-gives_none selection poll (mine n looked) (mine n later) mark cut) gives.0 published cancelled

pub cancelled_listed_keys_go_at_end : CancelledListedKeysGoAtEnd
cancelled_listed_keys_go_at_end l n before looked later selection poll answer mark i serial legal begun listed knows run
    published cancelled below =
    cancelled_keys_go_by_words l n before looked later selection poll answer mark i serial legal begun listed knows run
    published cancelled (omega (arith, below))

-- ---- the beginning

-- what the caller found of the index as the selection began
module _ (l : Limits) (n : CallerNo) (before opened later : List Event) (s : SelNo) (known : List LookedKey)
    (bound : ℕ) (looked : List LookedKey) (o : IsOpened l n before opened later s known bound looked []) (i serial : ℕ)
    (published : was_published ((state_after before).key s.0 i) serial ≡ true)
    (cancelled : was_cancelled ((state_after before).key s.0 i) serial ≡ true) where
  abbrev whole : List Event
  whole = before ++ (opened ++ later)

  legal_call : IsLegal l whole
  legal_call = legal_whole l n before opened later s known bound looked [] o

  abbrev IsGone : Type 0
  IsGone = was_removed ((state_after whole).key s.0 i) serial ≡ true

  abbrev IsOther : LookedKey → Type 0
  IsOther entry = (entry.index ≡ i) × (entry.serial ≡ serial) → ⊥

  none-other : All (λ e. e.index ≡ i → ⊥) looked → All IsOther looked
  none-other none = All-weaker (λ e. e.index ≡ i → ⊥) IsOther (λ e no_key same. no_key same.0) looked none

  -- the stage that a look at the index found, and the time of that look
  record LookedAt (word : IndexWord) : Type 0 where
    past : List Event
    rest : List Event
    parts : whole ≡ past ++ rest
    begins : IsPrefix before past
    legal_past : IsLegal l past
    stage_is : word.stage ≡ (state_after past).key s.0 i

  looked-at : (word : IndexWord) → Contains o.over (LookIndex s i word) → LookedAt word
  looked-at word there =
      let act = LookIndex s i word in
      let at = step_in l n before (opened ++ later) act legal_call
      (contained l n before opened later s known bound looked [] o act there) in
      record {
        past = at.past;
        rest = event_of n act ∷ at.rest;
        parts = at.parts;
        begins = at.begins;
        legal_past = at.legal_past;
        stage_is = ap (λ (w : IndexWord). w.stage) (ap index_in at.step.answers);
      }

  outside-gone : (word : IndexWord) → Contains o.over (LookIndex s i word) → in_cancelled_set word.stage ≡ false
      → IsGone
  outside-gone word there outside =
      let at = looked-at word there in
      outside_since l n before (opened ++ later) s i serial legal_call published cancelled at.past at.rest at.parts
      at.begins at.legal_past (ap in_cancelled_set (sym at.stage_is) ∙ outside)

  clear-gone : IsClear s i o.over → IsLeft s i known o.over looked → IsGone × All IsOther looked
  clear-gone clear left =
      let then = clear-right l n before opened later s known bound looked [] o i clear left.lists left.spares in
      let past = (before ++ opened) ++ then.past in
      let begins = moment_begins l n before opened later s known bound looked [] o then in
      let parts = moment_parts l n before opened later s known bound looked [] o then in (
        outside_since l n before (opened ++ later) s i serial legal_call published cancelled past then.rest parts
            begins then.legal_past then.fact.not_cancelled,
        All-weaker (λ e. e.index ≡ i → Contains known e) IsOther
            (λ e there same.
            let st = state_after past in
            let is = entry_stands st s.0 i (as_listed e)
            (sym (listed_there known e o.knows.right.rise (there same.0))
            ∙ (ap (λ (k : ℕ). listed_at known k) same.0 ∙ then.fact.stands)) in
            other_since l n before (opened ++ later) s i serial legal_call published cancelled past begins
            then.legal_past is.valid (is.serial ∙ same.1)) looked left.kept,
      )

  valid-outside : (k : Stage) → is_valid k ≡ true → in_cancelled_set k ≡ false
  valid-outside k valid = by_bits (in_key_set k) k.cancelled valid
    where
      by_bits : (a b : Bool) → (a && not b) ≡ true → (a && b) ≡ false
      by_bits false b is = refl
      by_bits true true is = absurd (cc is)
      by_bits true false is = refl

  found-gone : (key : LookedKey) → key.index ≡ i → FoundListed s o.over key → All (λ e. e.index ≡ i → e ≡ key) looked
      → IsGone × All IsOther looked
  found-gone key at found only =
      let act = LookIndex s key.index found.word in
      let there : Contains o.over (LookIndex s i found.word)
      = subst (λ (k : ℕ). Contains o.over (LookIndex s k found.word)) at
      (subst (λ xs. Contains xs act) (sym found.parts) (contains-middle found.before act found.later)) in
      let look = looked-at found.word there in (
        outside-gone found.word there (valid-outside found.word.stage found.valid),
        All-weaker (λ e. e.index ≡ i → e ≡ key) IsOther
            (λ e is same. other_since l n before (opened ++ later) s i serial legal_call published cancelled look.past
            look.begins look.legal_past (ap is_valid (sym look.stage_is) ∙ found.valid)
            (ap (λ (x : Stage). x.serial) (sym look.stage_is)
            ∙ (found.serial ∙ (ap (λ x. x.serial) (sym (is same.0)) ∙ same.1)))) looked only,
      )

  outcome-gone : Outcome s i known o.over looked → IsGone × All IsOther looked
  outcome-gone (is_clear clear left) = clear-gone clear left
  outcome-gone (is_removed found there none) = (
    settled-gone l n before (opened ++ later) s i serial legal_call published cancelled
        (is_gone found (contained l n before opened later s known bound looked [] o (Remove s i found) there)),
    none-other none,
  )
  outcome-gone (is_found key at found only) = found-gone key at found only
  outcome-gone (is_outside word there outside none) = (outside-gone word there outside, none-other none)

pub cancelled_listed_keys_go : CancelledListedKeysGo
cancelled_listed_keys_go l n before later s mode known selection i serial legal knows run published cancelled below =
    let cut = cut_call l n before later s mode known selection legal knows run in
    let o = cut.is in
    let outcome = (begin-outcome s i known selection.bound o.over selection.looked o.runs_over).passed
    (omega (arith, below)) in
    let both = outcome-gone l n before cut.opened cut.later s known selection.bound selection.looked o i serial published
    cancelled outcome in (
      subst (λ events. was_removed ((state_after (before ++ events)).key s.0 i) serial ≡ true) (sym cut.parts) both.0,
      both.1,
    )
