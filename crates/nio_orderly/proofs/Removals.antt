-- What is removed in legal and orderly histories, by selections that have begun and by closings that are over.
use Rattle.std.proofs.Common.{◌≡◌, ℕ, ◌==◌, ◌<◌, nat_lt, Bool, true, false, not, ◌&&◌, ◌||◌, ◌⊎◌, inl, inr, None, Result}
use Rattle.std.proofs.Common.{Ok, Err, List, [], ◌∷◌, ◌++◌, refl, ap, sym, ◌∙◌, subst, append_assoc, eqb-true, eq-eqb}
use Rattle.std.proofs.Common.{arith, Option, Some}
use Rattle.std.specs.List.{All, Contains}
use Rattle.std.specs.Prelude.{is_some, IsOk, IfOk}
use Rattle.std.proofs.lemmas.Bool.{and_parts, and_from, le-ltb, ltb-true, ltb-false}
use Rattle.std.proofs.lemmas.List.{append-nil}
use Rattle.std.proofs.lemmas.List.Elements.{All-head, All-tail, All-weaker}
use Rattle.nio_base.specs.declared.limits.Limits.{Limits}
use Rattle.nio_base.specs.declared.numbers.CallerNo.{CallerNo}
use Rattle.nio_base.specs.declared.numbers.SelNo.{SelNo}
use Rattle.nio_history.proofs.Legal.{legal_beginning, legal_next}
use Rattle.nio_history.proofs.OneMore.{mine-append}
use Rattle.nio_history.proofs.Stays.{facts_are_permanent}
use Rattle.nio_history.specs.Histories.{state_after, mine, event_of, IsLegal}
use Rattle.nio_history.specs.OwnEvents.{has}
use Rattle.nio_history.specs.Permanent.{PermanentFact, stands, key_claimed, key_published, key_cancelled, key_removed, below_keys_high}
use Rattle.nio_history.specs.Questions.{Question, question_of, answer_of}
use Rattle.nio_history.specs.Sets.{in_key_set, is_in_key_set, fits, was_claimed, was_published, was_removed, was_cancelled, is_valid, is_valid_key}
use Rattle.nio_history.specs.declared.act.Act.{Act}
use Rattle.nio_history.specs.declared.act.Act.TheVariants.{LookKeys, ShutBit, BeginLook}
use Rattle.nio_history.specs.declared.event.Event.{Event}
use Rattle.nio_history.specs.declared.found.GateWord.{GateWord}
use Rattle.nio_history.specs.declared.found.Mode.{Mode}
use Rattle.nio_history.specs.declared.found.Stage.{Stage}
use Rattle.nio_orderly.proofs.CallLists.{beginnings_are_orderly}
use Rattle.nio_orderly.proofs.Careful.{beginnings_are_careful}
use Rattle.nio_orderly.proofs.KeysStand.{keys_stand}
use Rattle.nio_orderly.proofs.KnownLists.{given_on}
use Rattle.nio_orderly.proofs.ListWords.{InFirst, InSecond, split_at, no_such_act}
use Rattle.nio_orderly.proofs.OrderlyCare.{orderly_is_careful}
use Rattle.nio_orderly.specs.Careful.{IsCareful}
use Rattle.nio_orderly.specs.Lists.{KnowsGiven}
use Rattle.nio_orderly.specs.Looked.{BeginLooksAtValid, SelectLooksAtValid}
use Rattle.nio_orderly.specs.Made.{Made, IsRun, table_call, waiting_call}
use Rattle.nio_orderly.specs.Orderly.{IsOrderly}
use Rattle.nio_orderly.specs.Owed.{looks_at_high}
use Rattle.nio_orderly.specs.Removals.{MadeLast, BeginRemovesCancelled, SelectRemovesCancelled}
use Rattle.nio_orderly.specs.Removals.{CloseRemovesBelow, FinishRemovesPublished, CloseRemovesPublished}
use Rattle.nio_steps.proofs.BeginLaws.{Begun, begin-parts}
use Rattle.nio_steps.proofs.ClosedLaws.{closed_removes_keys}
use Rattle.nio_steps.proofs.GoneLaws.{cancelled_keys_go, other_since}
use Rattle.nio_steps.proofs.Lists.{contains-middle}
use Rattle.nio_steps.proofs.OrderLaws.{looks_in_order}
use Rattle.nio_steps.proofs.OwnActs.{At, at_own, cut_at, PartedOwn, part_at, mine-own_first, Cut}
use Rattle.nio_steps.proofs.SelectionLaws.{none_of-append}
use Rattle.nio_steps.proofs.StandLaws.{look-act}
use Rattle.nio_steps.proofs.Unlisted.{refusals_leave_list}
use Rattle.nio_steps.proofs.Walks.{Always, always_if, always_bind, always_any, always_run}
use Rattle.nio_steps.specs.Laws.{ValidKeysAreLookedAt, HasEntry}
use Rattle.nio_steps.specs.ListLaws.{lists_index, StoodSo, ListedKeysStood, CancelledListedKeysGo, WasValid, ValidKeysAreListed}
use Rattle.nio_steps.specs.Plan.{reply}
use Rattle.nio_steps.specs.Runs.{Completes}
use Rattle.nio_steps.specs.SelectCalls.{Selection, Poll, SelectOutcome, Begins, ShutReply, closing, already_closed, FinishReply}
use Rattle.nio_steps.specs.SelectCalls.{closed, busy, ClosesRest, finish_finds_busy, remove_key, shut_plan}
use Rattle.nio_steps.specs.SelectCalls.{try_finish_plan, begin_finds_busy}
use Rattle.nio_steps.specs.Steps.{holder_in, number_in, gate_in}
use Rattle.nio_steps.specs.Sweeps.{sweep_to}
use Rattle.nio_steps.specs.TableCalls.{try_begin, try_finish, select, close}
use Rattle.nio_steps.specs.Waiting.{Run, acts_of, Retries}
use Rattle.nio_steps.specs.declared.looked.LookedKey.{LookedKey}
use Rattle.nio_steps.specs.declared.refusal.BeginError.{BeginError}

-- ---- a published key is removed or in the key set, and is below the high-water mark then

pub removed_or_there : (k : Stage) (serial : ℕ) → was_published k serial ≡ true
    → (was_removed k serial ≡ true) ⊎ (is_in_key_set k serial ≡ true)
removed_or_there k serial was = by_stage (nat_lt serial k.serial) (fits k serial) k.published k.removed was
  where
    by_stage : (newer fit published removed : Bool) → (newer || (fit && published)) ≡ true
        → ((newer || (fit && removed)) ≡ true) ⊎ ((fit && (published && not removed)) ≡ true)
    by_stage true fit published removed is = inl refl
    by_stage false true true true is = inl refl
    by_stage false true true false is = inr refl
    by_stage false true false removed is = absurd (cc is)
    by_stage false false published removed is = absurd (cc is)

there_claimed : (k : Stage) (serial : ℕ) → is_in_key_set k serial ≡ true → was_claimed k serial ≡ true
there_claimed k serial there =
    let fit = and_parts k.claimed (k.serial == serial) (and_parts (fits k serial) (in_key_set k) there).0 in
    let same : k.serial ≡ serial = eqb-true k.serial serial fit.1 in
    and_from k.claimed (not (nat_lt k.serial serial)) fit.0
    (ap not (le-ltb k.serial serial (omega (arith, same))))

module _ (l : Limits) (n : CallerNo) (before later : List Event) (call : Made)
    (made : MadeLast l n before later call) where
  legal_before : IsLegal l before
  legal_before = legal_beginning l before later made.legal

  careful_before : IsCareful before
  careful_before = beginnings_are_careful before (before ++ later) (later, refl)
      (orderly_is_careful l (before ++ later) made.orderly)

  pub there_below : (s i serial : ℕ) → is_in_key_set ((state_after before).key s i) serial ≡ true
      → nat_lt i ((state_after before).keys_high s) ≡ true
  there_below s i serial there =
      (keys_stand l made.fit before legal_before careful_before).below s i
      (and_parts (fits ((state_after before).key s i) serial) (in_key_set ((state_after before).key s i)) there).1

-- the mark that a caller finds later is above what was below it before
pub found_above : (l : Limits) (n : CallerNo) (before past rest : List Event) (s : SelNo) (mark i : ℕ)
    → IsLegal l ((before ++ past) ++ event_of n (LookKeys s mark) ∷ rest)
    → nat_lt i ((state_after before).keys_high s.0) ≡ true → i < mark
found_above l n before past rest s mark i legal below =
    let e = event_of n (LookKeys s mark) in
    let step = legal_next l (before ++ past) e rest legal in
    let legal_past = legal_beginning l (before ++ past) (e ∷ rest) legal in
    let is : mark ≡ (state_after (before ++ past)).keys_high s.0 = ap (λ x. number_in x) step.answers in
    ltb-true i mark
    (ap (nat_lt i) is
    ∙ facts_are_permanent l before (before ++ past) (past, refl) legal_past (below_keys_high s.0 i) below)

-- ---- a call in the middle of what a caller did

-- a call that the caller made within a longer one, in which it did `xs` before
record Amid (l : Limits) (n : CallerNo) (before later : List Event) (xs : List Act) (call : Made) : Type 0 where
  past : List Event
  mine_past : mine n past ≡ xs
  during : List Event
  rest : List Event
  joined : ((before ++ past) ++ during) ++ rest ≡ before ++ later
  made : MadeLast l n (before ++ past) during call

amid : (l : Limits) (n : CallerNo) (before later : List Event) (whole call : Made) (xs acts ys : List Act)
    → MadeLast l n before later whole → mine n later ≡ xs ++ (acts ++ ys) → IsRun l call acts
    → Amid l n before later xs call
amid l n before later whole call xs acts ys made own run = record {
  past = first.past;
  mine_past = first.mine_past;
  during = second.past;
  rest = second.later;
  joined = joined;
  made = record {
    fit = made.fit;
    legal = legal_beginning l ((before ++ first.past) ++ second.past) second.later
        (subst (IsLegal l) (sym joined) made.legal);
    orderly = beginnings_are_orderly l ((before ++ first.past) ++ second.past) second.later
        (subst (IsOrderly l) (sym joined) made.orderly);
    runs = subst (IsRun l call) (sym second.mine_past) run;
  };
}
  where
    first : PartedOwn n later xs (acts ++ ys)
    first = part_at n later xs (acts ++ ys) own

    second : PartedOwn n first.later acts ys
    second = part_at n first.later acts ys first.mine_later

    joined : ((before ++ first.past) ++ second.past) ++ second.later ≡ before ++ later
    joined = append_assoc (before ++ first.past) second.past second.later
        ∙ (ap (λ events. (before ++ first.past) ++ events) (sym second.parts)
        ∙ (append_assoc before first.past first.later ∙ ap (λ events. before ++ events) (sym first.parts)))

-- the look at the high-water mark
pub high_look : (s : SelNo) (act : Act) → question_of act ≡ Question.look_keys s
    → act ≡ LookKeys s (number_in (answer_of act))
high_look s (LookKeys t found) asks = cc asks
high_look s _ asks = absurd (cc asks)

-- ---- selections

-- the bound of a selection is above what was below the high-water mark before
bound_above : (l : Limits) (n : CallerNo) (before later : List Event) (s : SelNo) (mode : Mode)
    (known : Option (List LookedKey)) (selection : Selection) (i : ℕ) → IsLegal l (before ++ later)
    → Begins s mode known (mine n later) (Ok selection) → nat_lt i ((state_after before).keys_high s.0) ≡ true
    → i < selection.bound
bound_above l n before later s mode known selection i legal run below =
    subst (λ (m : ℕ). i < m) (sym begun.bound)
    (found_above l n before at.past at.later s mark i
    (subst (IsLegal l) (ap (λ events. before ++ events) at.parts
    ∙ sym (append_assoc before at.past (event_of n (LookKeys s mark) ∷ at.later))) legal) below)
  where
    begun : Begun s mode known (mine n later) selection
    begun = begin-parts s mode known (mine n later) selection run

    mark : ℕ
    mark = number_in (answer_of begun.keys)

    at : At n later (LookKeys s mark)
    at = at_own n later (LookKeys s mark)
        (subst (Contains (mine n later)) (high_look s begun.keys begun.asks_keys)
        (subst (λ acts. Contains acts begun.keys) (sym begun.parts)
        (contains-middle (begun.gate ∷ begun.take ∷ begun.look ∷ []) begun.keys begun.over)))

-- by the laws of selections that go by the list
module _ (listed_go : CancelledListedKeysGo) (listed_stood : ListedKeysStood) (l : Limits) (n : CallerNo)
    (before later : List Event) (s : SelNo) (mode : Mode) (selection : Selection) (i serial : ℕ)
    (legal : IsLegal l (before ++ later))
    (published : was_published ((state_after before).key s.0 i) serial ≡ true)
    (cancelled : was_cancelled ((state_after before).key s.0 i) serial ≡ true) where
  abbrev IsOther : LookedKey → Type 0
  IsOther entry = (entry.index ≡ i) × (entry.serial ≡ serial) → ⊥

  -- a cancelled key below the bound is removed, and isn't among the looked keys
  gone_below : (known : Option (List LookedKey)) → KnowsGiven l n before s known
      → Begins s mode known (mine n later) (Ok selection) → i < selection.bound
      → (was_removed ((state_after (before ++ later)).key s.0 i) serial ≡ true) × All IsOther selection.looked
  gone_below None knows run below =
      cancelled_keys_go l n before later s mode selection i serial legal run published cancelled below
  gone_below (Some known) knows run below =
      listed_go l n before later s mode known selection i serial legal knows run published cancelled below

  -- nor is it where its index isn't below the bound
  none_above : (known : Option (List LookedKey)) → KnowsGiven l n before s known
      → Begins s mode known (mine n later) (Ok selection) → nat_lt i selection.bound ≡ false
      → All IsOther selection.looked
  none_above None knows run above =
      let order = looks_in_order s mode (mine n later) selection run in
      All-weaker (λ entry. entry.index < selection.bound) IsOther
      (λ entry low same. absurd (omega (arith, low, same.0, ltb-false i selection.bound above)))
      selection.looked order.below
  none_above (Some known) knows run above =
      All-weaker (StoodSo s looking cut.later) IsOther other selection.looked
      (listed_stood l n before cut.past cut.later s mode known found selection legal_looking knows
      (subst (λ events. Begins s mode (Some known) (mine n events) (Ok selection)) cut.parts run))
    where
      begun : Begun s mode (Some known) (mine n later) selection
      begun = begin-parts s mode (Some known) (mine n later) selection run

      found : GateWord
      found = gate_in (answer_of begun.look)

      cut : Cut n later (begun.gate ∷ begun.take ∷ []) (BeginLook s found) (begun.keys ∷ begun.over)
      cut = cut_at n later (begun.gate ∷ begun.take ∷ []) (BeginLook s found) (begun.keys ∷ begun.over)
          (begun.parts ∙ ap (λ x. begun.gate ∷ begun.take ∷ x ∷ begun.keys ∷ begun.over)
          (look-act s begun.look begun.asks_look))

      opening : List Event
      opening = cut.past ++ event_of n (BeginLook s found) ∷ []

      looking : List Event
      looking = before ++ opening

      legal_looking : IsLegal l (looking ++ cut.later)
      legal_looking = subst (IsLegal l)
          (sym (append_assoc before opening cut.later
          ∙ ap (λ events. before ++ events)
          (append_assoc cut.past (event_of n (BeginLook s found) ∷ []) cut.later ∙ sym cut.parts))) legal

      other_then : (entry : LookedKey) (past rest : List Event) → cut.later ≡ past ++ rest
          → WasValid s entry (state_after (looking ++ past)) → IsOther entry
      other_then entry past rest parts was same =
          let k : Stage = (state_after (looking ++ past)).key s.0 i in
          let both = and_parts (fits k entry.serial) (is_valid k)
          (subst (λ (j : ℕ). is_valid_key ((state_after (looking ++ past)).key s.0 j) entry.serial ≡ true) same.0
          was.valid) in
          other_since l n before later s i serial legal published cancelled (looking ++ past)
          (opening ++ past, sym (append_assoc before opening past))
          (legal_beginning l (looking ++ past) rest
          (subst (IsLegal l)
          (sym (append_assoc looking past rest ∙ ap (λ events. looking ++ events) (sym parts))) legal_looking)) both.1
          (eqb-true k.serial entry.serial (and_parts k.claimed (k.serial == entry.serial) both.0).1 ∙ same.1)

      other : (entry : LookedKey) → StoodSo s looking cut.later entry → IsOther entry
      other entry stood = other_then entry stood.valid.past stood.valid.rest stood.valid.parts stood.valid.stood

pub begin_removes_cancelled : CancelledListedKeysGo → ListedKeysStood → BeginRemovesCancelled
begin_removes_cancelled listed_go listed_stood l n before later s mode known selection i serial made knows published cancelled = (
  by_stage (removed_or_there ((state_after before).key s.0 i) serial published),
  by_bound (nat_lt i selection.bound) refl,
)
  where
    go : i < selection.bound → (was_removed ((state_after (before ++ later)).key s.0 i) serial ≡ true)
        × All (λ entry. ¬ ((entry.index ≡ i) × (entry.serial ≡ serial))) selection.looked
    go = gone_below listed_go listed_stood l n before later s mode selection i serial made.legal published cancelled known
        knows made.runs

    by_stage : (was_removed ((state_after before).key s.0 i) serial ≡ true)
        ⊎ (is_in_key_set ((state_after before).key s.0 i) serial ≡ true)
        → was_removed ((state_after (before ++ later)).key s.0 i) serial ≡ true
    by_stage (inl removed) =
        facts_are_permanent l before (before ++ later) (later, refl) made.legal (key_removed s.0 i serial) removed
    by_stage (inr there) =
        (go (bound_above l n before later s mode known selection i made.legal made.runs
        (there_below l n before later (table_call (try_begin s mode known) (Ok selection)) made s.0 i serial there))).0

    by_bound : (b : Bool) → nat_lt i selection.bound ≡ b
        → All (λ entry. ¬ ((entry.index ≡ i) × (entry.serial ≡ serial))) selection.looked
    by_bound true below = (go (ltb-true i selection.bound below)).1
    by_bound false above =
        none_above listed_go listed_stood l n before later s mode selection i serial made.legal published cancelled known
        knows made.runs above

-- ---- valid keys

-- a key that is valid was neither removed nor cancelled before

module _ (k : Stage) (serial : ℕ) (valid : is_valid_key k serial ≡ true) where
  fit : fits k serial ≡ true
  fit = (and_parts (fits k serial) (is_valid k) valid).0

  not_later : nat_lt serial k.serial ≡ false
  not_later =
      let same : k.serial ≡ serial = eqb-true k.serial serial (and_parts k.claimed (k.serial == serial) fit).1 in
      le-ltb serial k.serial (omega (arith, same))

  by_bits : (later fits' p r c : Bool) → later ≡ false → (fits' && ((p && not r) && not c)) ≡ true
      → ((later || (fits' && r)) ≡ true → ⊥) × ((later || (fits' && c)) ≡ true → ⊥)
  by_bits true fits' p r c now valid' = absurd (cc now)
  by_bits false false p r c now valid' = absurd (cc valid')
  by_bits false true false r c now valid' = absurd (cc valid')
  by_bits false true true true c now valid' = absurd (cc valid')
  by_bits false true true false true now valid' = absurd (cc valid')
  by_bits false true true false false now valid' = (λ was. absurd (cc was), λ was. absurd (cc was))

  unspoilt : (was_removed k serial ≡ true → ⊥) × (was_cancelled k serial ≡ true → ⊥)
  unspoilt = by_bits (nat_lt serial k.serial) (fits k serial) k.published k.removed k.cancelled not_later valid

valid_there : (k : Stage) (serial : ℕ) → was_removed k serial ≡ true → is_valid_key k serial ≡ true → ⊥
valid_there k serial removed valid = (unspoilt k serial valid).0 removed

valid_uncancelled : (k : Stage) (serial : ℕ) → was_cancelled k serial ≡ true → is_valid_key k serial ≡ true → ⊥
valid_uncancelled k serial cancelled valid = (unspoilt k serial valid).1 cancelled

pub begin_looks_at_valid : ValidKeysAreLookedAt → ValidKeysAreListed → BeginLooksAtValid
begin_looks_at_valid looked_at listed l n before later s mode known selection i serial made knows published valid =
    by_list known knows made.runs
  where
    below : i < selection.bound
    below = elim (removed_or_there ((state_after before).key s.0 i) serial published) [
      | inl removed ↦
          absurd (valid_there ((state_after (before ++ later)).key s.0 i) serial
          (facts_are_permanent l before (before ++ later) (later, refl) made.legal (key_removed s.0 i serial) removed)
          valid)
      | inr there ↦
          bound_above l n before later s mode known selection i made.legal made.runs
          (there_below l n before later (table_call (try_begin s mode known) (Ok selection)) made s.0 i serial there)
    ]

    by_list : (k : Option (List LookedKey)) → KnowsGiven l n before s k → Begins s mode k (mine n later) (Ok selection)
        → HasEntry selection.looked i serial
    by_list None knows' run = looked_at l n before later s mode selection i serial made.legal run published valid below
    by_list (Some list) knows' run =
        listed l n before later s mode list selection i serial made.legal knows' run published valid below

-- ---- whole selections

-- a beginning that finds the turn taken leaves the list
tries_leave_list : (s : SelNo) (mode : Mode) (known : Option (List LookedKey)) (i : ℕ)
    (runs : List (Run (Unit {0}) (Result Selection BeginError)))
    → All (λ run. Begins s mode known run.acts run.answer) runs → All (λ run. begin_finds_busy run.answer ≡ true) runs
    → has (lists_index s.0 i) (acts_of runs) ≡ false
tries_leave_list s mode known i [] made again = refl
tries_leave_list s mode known i (run ∷ runs) made again =
    none_of-append (lists_index s.0 i) run.acts (acts_of runs)
    (of_refusal run.answer (All-head (λ r. Begins s mode known r.acts r.answer) run runs made)
    (All-head (λ r. begin_finds_busy r.answer ≡ true) run runs again))
    (tries_leave_list s mode known i runs (All-tail (λ r. Begins s mode known r.acts r.answer) run runs made)
    (All-tail (λ r. begin_finds_busy r.answer ≡ true) run runs again))
  where
    of_refusal : (answer : Result Selection BeginError) → Begins s mode known run.acts answer
        → begin_finds_busy answer ≡ true → has (lists_index s.0 i) run.acts ≡ false
    of_refusal (Ok selection) begins again = absurd (cc again)
    of_refusal (Err refusal) begins again = refusals_leave_list s mode known run.acts refusal begins i

-- the beginning of a whole selection, as a call of its own
record BegunIn (l : Limits) (n : CallerNo) (before later : List Event) (s : SelNo) (mode : Mode)
    (known : Option (List LookedKey)) (selection : Selection) : Type 0 where
  past : List Event
  during : List Event
  rest : List Event
  joined : ((before ++ past) ++ during) ++ rest ≡ before ++ later
  made : MadeLast l n (before ++ past) during (table_call (try_begin s mode known) (Ok selection))
  knows : KnowsGiven l n (before ++ past) s known
  legal : IsLegal l (before ++ past)

begun_in : (l : Limits) (n : CallerNo) (before later : List Event) (s : SelNo) (mode : Mode)
    (known : Option (List LookedKey)) (polls : List Poll) (outcome : SelectOutcome) (selection : Selection)
    → MadeLast l n before later (waiting_call (select s mode known polls) outcome) → KnowsGiven l n before s known
    → outcome.begun ≡ Ok selection → BegunIn l n before later s mode known selection
begun_in l n before later s mode known polls outcome selection made knows begun = record {
  past = its.past;
  during = its.during;
  rest = its.rest;
  joined = its.joined;
  made = its.made;
  knows = given_on l n before its.past s known legal_past
      (λ k. ap (has (lists_index s.0 k)) (its.mine_past ∙ retries.tries.parts)
      ∙ tries_leave_list s mode known k retries.tries.runs retries.tries.made retries.tries.again) knows;
  legal = legal_past;
}
  where
    retries : Retries (Begins s mode known) begin_finds_busy made.runs.makes.first made.runs.makes.middle
    retries = made.runs.makes.runs_first

    acts : List Act
    acts = retries.last.acts

    own : mine n later ≡ retries.before ++ (acts ++ made.runs.makes.second)
    own = made.runs.makes.parts
        ∙ (ap (λ xs. xs ++ made.runs.makes.second) retries.parts
        ∙ append_assoc retries.before acts made.runs.makes.second)

    its : Amid l n before later retries.before (table_call (try_begin s mode known) (Ok selection))
    its = amid l n before later (waiting_call (select s mode known polls) outcome)
        (table_call (try_begin s mode known) (Ok selection)) retries.before acts made.runs.makes.second made own
        (subst (Begins s mode known acts) (retries.answers ∙ (made.runs.begun ∙ begun)) retries.made)

    legal_past : IsLegal l (before ++ its.past)
    legal_past = legal_beginning l (before ++ its.past) its.during its.made.legal

-- what was published stays so till the beginning
published_till : (l : Limits) (before past : List Event) (s i serial : ℕ) → IsLegal l (before ++ past)
    → was_published ((state_after before).key s i) serial ≡ true
    → was_published ((state_after (before ++ past)).key s i) serial ≡ true
published_till l before past s i serial legal =
    facts_are_permanent l before (before ++ past) (past, refl) legal (key_published s i serial)

pub select_removes_cancelled : BeginRemovesCancelled → SelectRemovesCancelled
select_removes_cancelled begin_removes l n before later s mode known polls outcome i serial made knows begun published
    cancelled =
    by_beginning outcome.begun refl begun
  where
    by_beginning : (b : Result Selection BeginError) → outcome.begun ≡ b → IsOk b
        → (was_removed ((state_after (before ++ later)).key s.0 i) serial ≡ true)
        × IfOk b (λ selection. All (λ entry. ¬ ((entry.index ≡ i) × (entry.serial ≡ serial))) selection.looked)
    by_beginning (Ok selection) is is_ok =
        let its = begun_in l n before later s mode known polls outcome selection made knows is in
        let gone = begin_removes l n (before ++ its.past) its.during s mode known selection i serial its.made its.knows
        (published_till l before its.past s.0 i serial its.legal published)
        (facts_are_permanent l before (before ++ its.past) (its.past, refl) its.legal (key_cancelled s.0 i serial)
        cancelled) in (
          facts_are_permanent l ((before ++ its.past) ++ its.during) (before ++ later) (its.rest, its.joined) made.legal
              (key_removed s.0 i serial) gone.0,
          gone.1,
        )
    by_beginning (Err refusal) is is_ok = absurd (cc is_ok)

-- what is published and neither cancelled nor removed is valid
unspoiled : (k : Stage) (serial : ℕ) → was_published k serial ≡ true → (was_cancelled k serial ≡ true → ⊥)
    → (was_removed k serial ≡ true → ⊥) → is_valid_key k serial ≡ true
unspoiled k serial = by_bits (nat_lt serial k.serial) (fits k serial) k.published k.cancelled k.removed
  where
    by_bits : (later fit p c r : Bool) → (later || (fit && p)) ≡ true → ((later || (fit && c)) ≡ true → ⊥)
        → ((later || (fit && r)) ≡ true → ⊥) → (fit && ((p && not r) && not c)) ≡ true
    by_bits true fit p c r published uncancelled unremoved = absurd (uncancelled refl)
    by_bits false false p c r published uncancelled unremoved = absurd (cc published)
    by_bits false true false c r published uncancelled unremoved = absurd (cc published)
    by_bits false true true true r published uncancelled unremoved = absurd (uncancelled refl)
    by_bits false true true false true published uncancelled unremoved = absurd (unremoved refl)
    by_bits false true true false false published uncancelled unremoved = refl

pub select_looks_at_valid : BeginLooksAtValid → SelectLooksAtValid
select_looks_at_valid begin_looks l n before later s mode known polls outcome i serial made knows published valid =
    by_beginning outcome.begun refl
  where
    by_beginning : (b : Result Selection BeginError) → outcome.begun ≡ b
        → IfOk b (λ selection. HasEntry selection.looked i serial)
    by_beginning (Err refusal) is = tt
    by_beginning (Ok selection) is =
        let its = begun_in l n before later s mode known polls outcome selection made knows is in
        let till = (before ++ its.past) ++ its.during in
        let published_then = published_till l before its.past s.0 i serial its.legal published in
        let at_last = (state_after (before ++ later)).key s.0 i in
        let on : (f : PermanentFact) → stands f (state_after till) ≡ true
        → stands f (state_after (before ++ later)) ≡ true
        = facts_are_permanent l till (before ++ later) (its.rest, its.joined) made.legal in
        begin_looks l n (before ++ its.past) its.during s mode known selection i serial its.made its.knows published_then
        (unspoiled ((state_after till).key s.0 i) serial
        (published_till l (before ++ its.past) its.during s.0 i serial its.made.legal published_then)
        (λ was. valid_uncancelled at_last serial (on (key_cancelled s.0 i serial) was) valid)
        (λ was. valid_there at_last serial (on (key_removed s.0 i serial) was) valid))

-- ---- the look at the high-water mark of a closing

record FindsHigh (s : SelNo) (acts : List Act) : Type 0 where
  enters : Act
  mark : ℕ
  rest : List Act
  parts : acts ≡ enters ∷ LookKeys s mark ∷ rest

-- a closing that is over looked at the high-water mark, and one that finds somebody selecting didn't
abbrev Looked : SelNo → List Act → FinishReply → Type 0
Looked s acts closed = FindsHigh s acts
Looked s acts busy = has (looks_at_high s.0) acts ≡ false

finish_looked : (s : SelNo) → Always (Looked s) (try_finish_plan s)
unfolding try_finish_plan
finish_looked s =
    λ enters asks. always_if (λ xs r. Looked s (enters ∷ xs) r) (is_some (holder_in (answer_of enters)))
    (reply busy) _ (λ _. entering enters asks)
    (λ _ look asks'. let sweep = sweep_to (number_in (answer_of look)) 0 (λ i _. remove_key s i) tt in
    always_bind (λ _ _. Unit {0}) (λ xs r. Looked s (enters ∷ look ∷ xs) r) sweep (λ _. reply closed)
    (always_any sweep)
    (λ xs _ _. record {
      enters = enters;
      mark = number_in (answer_of look);
      rest = xs ++ [];
      parts =
          ap (λ act. enters ∷ act ∷ (xs ++ [])) (high_look s look asks');
    }))
  where
    entering : (act : Act) → question_of act ≡ Question.enter s → has (looks_at_high s.0) (act ∷ []) ≡ false
    entering (LookKeys t found) asks = absurd (cc asks)
    entering _ asks = refl

tries_looked : (s : SelNo) (runs : List (Run Unit FinishReply))
    → All (λ run. Completes (try_finish_plan s) run.acts run.answer) runs
    → All (λ run. finish_finds_busy run.answer ≡ true) runs → has (looks_at_high s.0) (acts_of runs) ≡ false
tries_looked s [] made again = refl
tries_looked s (run ∷ runs) made again =
    none_of-append (looks_at_high s.0) run.acts (acts_of runs)
    (of_busy run.answer (All-head (λ r. finish_finds_busy r.answer ≡ true) run runs again)
    (always_run (Looked s) (try_finish_plan s) run.acts run.answer (finish_looked s)
    (All-head (λ r. Completes (try_finish_plan s) r.acts r.answer) run runs made)))
    (tries_looked s runs (All-tail (λ r. Completes (try_finish_plan s) r.acts r.answer) run runs made)
    (All-tail (λ r. finish_finds_busy r.answer ≡ true) run runs again))
  where
    of_busy : (r : FinishReply) → finish_finds_busy r ≡ true → Looked s run.acts r
        → has (looks_at_high s.0) run.acts ≡ false
    of_busy closed is looked = absurd (cc is)
    of_busy busy is looked = looked

shut_looked : (s : SelNo) (acts : List Act) (r : ShutReply) → Completes (shut_plan s) acts r
    → has (looks_at_high s.0) acts ≡ false
unfolding shut_plan
shut_looked s [] r run = absurd (cc run)
shut_looked s (ShutBit s' was ∷ []) r run = refl
shut_looked s (ShutBit s' was ∷ act ∷ acts) r run = absurd run.1
shut_looked s (_ ∷ acts) r run = absurd (cc run.0)

-- ---- closings

pub close_removes_below : CloseRemovesBelow
close_removes_below l n before looked later s mark i serial legal run claimed below =
    by_reply run.middle run.runs_first run.runs_second
  where
    e : Event
    e = event_of n (LookKeys s mark)

    by_reply : (middle : ShutReply) → Completes (shut_plan s) run.first middle → ClosesRest s middle run.second true
        → was_removed ((state_after (before ++ (looked ++ e ∷ later))).key s.0 i) serial ≡ true
    by_reply already_closed first second = absurd (cc second.0)
    by_reply closing first second = by_place (split_at cut.past cut.later looked e later (sym cut.parts))
      where
        acts : List Act
        acts = second.1.last.acts

        tries : List Act
        tries = second.1.before

        own : mine n (looked ++ e ∷ later) ≡ (run.first ++ tries) ++ acts
        own = run.parts
            ∙ (ap (λ xs. run.first ++ xs) second.1.parts ∙ sym (append_assoc run.first tries acts))

        cut : PartedOwn n (looked ++ e ∷ later) (run.first ++ tries) acts
        cut = part_at n (looked ++ e ∷ later) (run.first ++ tries) acts own

        no_look : has (looks_at_high s.0) (mine n cut.past) ≡ false
        no_look = ap (has (looks_at_high s.0)) cut.mine_past
            ∙ none_of-append (looks_at_high s.0) run.first tries (shut_looked s run.first closing first)
            (ap (has (looks_at_high s.0)) second.1.tries.parts
            ∙ tries_looked s second.1.tries.runs second.1.tries.made second.1.tries.again)

        by_place : InFirst cut.past cut.later looked e later ⊎ InSecond cut.past cut.later looked e later
            → was_removed ((state_after (before ++ (looked ++ e ∷ later))).key s.0 i) serial ≡ true
        by_place (inl there) =
            absurd (no_such_act (looks_at_high s.0) (mine n looked) (LookKeys s mark) (mine n there.rest)
            (ap (has (looks_at_high s.0))
            (sym (mine-append n looked (e ∷ there.rest)
            ∙ ap (λ xs. mine n looked ++ xs) (mine-own_first n e there.rest (eq-eqb n.0 n.0 refl)))
            ∙ ap (mine n) (sym there.parts)) ∙ no_look)
            (eq-eqb s.0 s.0 refl))
        by_place (inr there) =
            subst (λ events. was_removed ((state_after events).key s.0 i) serial ≡ true) joined
            (closed_removes_keys l n (before ++ cut.past) there.start later s mark i serial
            (subst (IsLegal l) (sym joined) legal)
            (subst (λ events. Completes (try_finish_plan s) (mine n events) closed) there.parts
            (subst (λ xs. Completes (try_finish_plan s) xs closed) (sym cut.mine_later)
            (subst (Completes (try_finish_plan s) acts) second.1.answers second.1.made)))
            (subst (λ events. was_claimed ((state_after events).key s.0 i) serial ≡ true)
            (ap (λ events. before ++ events) there.before_is ∙ sym (append_assoc before cut.past there.start)) claimed)
            below)
          where
            joined : (before ++ cut.past) ++ (there.start ++ e ∷ later) ≡ before ++ (looked ++ e ∷ later)
            joined = append_assoc before cut.past (there.start ++ e ∷ later)
                ∙ (ap (λ events. before ++ (cut.past ++ events)) (sym there.parts)
                ∙ ap (λ events. before ++ events) (sym cut.parts))

pub finish_removes_published : FinishRemovesPublished
finish_removes_published l n before later s i serial made published =
    by_stage (removed_or_there ((state_after before).key s.0 i) serial published)
  where
    by_stage : (was_removed ((state_after before).key s.0 i) serial ≡ true)
        ⊎ (is_in_key_set ((state_after before).key s.0 i) serial ≡ true)
        → was_removed ((state_after (before ++ later)).key s.0 i) serial ≡ true
    by_stage (inl removed) =
        facts_are_permanent l before (before ++ later) (later, refl) made.legal (key_removed s.0 i serial) removed
    by_stage (inr there) =
        subst (λ events. was_removed ((state_after (before ++ events)).key s.0 i) serial ≡ true) (sym at.parts)
        (closed_removes_keys l n before at.past at.later s found.mark i serial legal
        (subst (λ events. Completes (try_finish_plan s) (mine n events) closed) at.parts made.runs)
        (facts_are_permanent l before (before ++ at.past) (at.past, refl)
        (legal_beginning l (before ++ at.past) (e ∷ at.later) legal_parts) (key_claimed s.0 i serial)
        (there_claimed ((state_after before).key s.0 i) serial there))
        (found_above l n before at.past at.later s found.mark i legal_parts
        (there_below l n before later (table_call (try_finish s) closed) made s.0 i serial there)))
      where
        found : FindsHigh s (mine n later)
        found = always_run (Looked s) (try_finish_plan s) (mine n later) closed (finish_looked s) made.runs

        e : Event
        e = event_of n (LookKeys s found.mark)

        at : At n later (LookKeys s found.mark)
        at = at_own n later (LookKeys s found.mark)
            (subst (λ acts. Contains acts (LookKeys s found.mark)) (sym found.parts)
            (contains-middle (found.enters ∷ []) (LookKeys s found.mark) found.rest))

        legal : IsLegal l (before ++ (at.past ++ e ∷ at.later))
        legal = subst (λ events. IsLegal l (before ++ events)) at.parts made.legal

        legal_parts : IsLegal l ((before ++ at.past) ++ e ∷ at.later)
        legal_parts = subst (IsLegal l) (sym (append_assoc before at.past (e ∷ at.later))) legal

pub close_removes_published : CloseRemovesPublished
close_removes_published l n before later s i serial made published =
    by_reply made.runs.middle made.runs.runs_second
  where
    by_reply : (middle : ShutReply) → ClosesRest s middle made.runs.second true
        → was_removed ((state_after (before ++ later)).key s.0 i) serial ≡ true
    by_reply already_closed second = absurd (cc second.0)
    by_reply closing second =
        facts_are_permanent l ((before ++ its.past) ++ its.during) (before ++ later) (its.rest, its.joined) made.legal
        (key_removed s.0 i serial)
        (finish_removes_published l n (before ++ its.past) its.during s i serial its.made
        (facts_are_permanent l before (before ++ its.past) (its.past, refl)
        (legal_beginning l (before ++ its.past) its.during its.made.legal) (key_published s.0 i serial) published))
      where
        acts : List Act
        acts = second.1.last.acts

        tries : List Act
        tries = second.1.before

        own : mine n later ≡ (made.runs.first ++ tries) ++ (acts ++ [])
        own = made.runs.parts
            ∙ (ap (λ xs. made.runs.first ++ xs) second.1.parts
            ∙ (sym (append_assoc made.runs.first tries acts)
            ∙ ap (λ xs. (made.runs.first ++ tries) ++ xs) (sym (append-nil acts))))

        its : Amid l n before later (made.runs.first ++ tries) (table_call (try_finish s) closed)
        its = amid l n before later (waiting_call (close s) true) (table_call (try_finish s) closed)
            (made.runs.first ++ tries) acts [] made own
            (subst (Completes (try_finish_plan s) acts) second.1.answers second.1.made)
