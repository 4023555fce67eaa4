-- What a caller that made whole calls has in progress it has begun, and hasn't ended.
use Rattle.std.proofs.Common.{◌≡◌, ℕ, ◌==◌, Bool, true, false, if◌then◌else◌, IsFalse, All, Some, None, is_some, Ok}
use Rattle.nio_steps.specs.TableCalls.{take_list}
use Rattle.nio_steps.specs.declared.looked.LookedKey.{LookedKey}
use Rattle.std.specs.Prelude.{Option, List}
use Rattle.std.proofs.Common.{Err, List, [], ◌∷◌, ◌++◌, refl, ap, sym, ◌∙◌, subst, append_assoc, eqb-true, eq-eqb, ◌⊎◌}
use Rattle.std.proofs.Common.{inl, inr}
use Rattle.std.specs.List.{Contains}
use Rattle.std.proofs.lemmas.Bool.{and_parts}
use Rattle.std.proofs.lemmas.List.{append-nil}
use Rattle.std.proofs.lemmas.List.Elements.{All-head, All-tail, Contains-append_left}
use Rattle.std.proofs.lemmas.List.Elements.{Contains-append_right}
use Rattle.nio_base.specs.declared.limits.Limits.{Limits}
use Rattle.nio_base.specs.declared.numbers.CallerNo.{CallerNo}
use Rattle.nio_base.specs.declared.numbers.SelNo.{SelNo}
use Rattle.nio_history.proofs.Legal.{legal_beginning, legal_next}
use Rattle.nio_history.proofs.Soundness.{both_ways}
use Rattle.nio_history.proofs.TurnLaws.{not_free}
use Rattle.nio_history.specs.Conditions.{has_turn, is_held_by}
use Rattle.nio_history.specs.Histories.{state_after, mine, event_of, IsStep, IsLegal}
use Rattle.nio_history.specs.OwnEvents.{gives_turn}
use Rattle.nio_history.specs.Questions.{Question, question_of, answer_of}
use Rattle.nio_history.specs.State.{put}
use Rattle.nio_history.specs.Turns.{removes_on}
use Rattle.nio_history.specs.declared.act.Act.{Act}
use Rattle.nio_history.specs.declared.act.Act.TheVariants.{DrawBit, TakeTurn, Enter, ShutBit}
use Rattle.nio_history.specs.declared.event.Event.{Event}
use Rattle.nio_history.specs.declared.found.Mode.{Mode}
use Rattle.nio_orderly.proofs.ListWords.{has-neither}
use Rattle.nio_orderly.proofs.WaitedCalls.{calls_without_waiting}
use Rattle.nio_orderly.specs.Made.{Made, IsRun, after_call, after_calls, MayCome, AreInOrder, draw, table_call}
use Rattle.nio_orderly.specs.Made.{waiting_call}
use Rattle.nio_orderly.specs.Orderly.{AreRuns}
use Rattle.nio_orderly.specs.Waited.{waits}
use Rattle.nio_plain.specs.Seq.Selections.{is_caller}
use Rattle.nio_serial.proofs.SequenceCalls.{again-same}
use Rattle.nio_serial.specs.Documented.{Progress}
use Rattle.nio_serial.specs.Lines.{own_selection}
use Rattle.nio_sole.specs.Made.{HasMade}
use Rattle.nio_sole.specs.MadeLaws.{OngoingIsBegun, OngoingIsClosing}
use Rattle.nio_steps.proofs.BeginLaws.{begin-parts}
use Rattle.nio_steps.proofs.Lists.{contains-middle}
use Rattle.nio_steps.proofs.OwnActs.{cut_at}
use Rattle.nio_steps.proofs.SelectionLaws.{begins_selection, again_goes_on}
use Rattle.nio_steps.proofs.StandLaws.{selections_stand}
use Rattle.nio_steps.proofs.Walks.{Always, always_weaker, always_if, always_any, always_run}
use Rattle.nio_steps.proofs.WorksLaws.{touches, Spared, none-leaves, one-leaves, leaves-append, works_only_there}
use Rattle.nio_steps.specs.Laws.{LeavesSelector, is_selector}
use Rattle.nio_steps.specs.Ongoing.{Ongoing, nothing_ongoing}
use Rattle.nio_steps.specs.Plan.{reply}
use Rattle.nio_steps.specs.SelectCalls.{Selection, try_begin_plan, begin_lacks_memory, begin_open, begin_with_turn}
use Rattle.nio_steps.specs.SelectCalls.{done, again, shut_plan, closing, already_closed, try_finish_plan, closed, busy}
use Rattle.nio_steps.specs.SelectCalls.{remove_keys}
use Rattle.nio_steps.specs.Selections.{marks_on, IsBegun, IsClosing}
use Rattle.nio_steps.specs.Steps.{flag_in, gate_in, holder_in}
use Rattle.nio_steps.specs.TableCalls.{row_of, try_begin, told, leave, shut, try_finish, select, close}
use Rattle.nio_steps.specs.declared.refusal.BeginError.{BeginError}

-- ---- numbers

same_number : (a b : ℕ) → (a == b) ≡ true → (b == a) ≡ true
same_number a b is = eq-eqb b a (sym (eqb-true a b is))

other_number : (a b : ℕ) → (a == b) ≡ false → (b == a) ≡ false
other_number a b is = by_test (b == a) refl
  where
    by_test : (c : Bool) → (b == a) ≡ c → c ≡ false
    by_test true same = absurd (both_ways (a == b) (same_number b a same) is)
    by_test false same = refl

-- ---- what a call leaves of a selection

-- the call begins, tells, leaves or closes on selector t
abbrev is_on : ℕ → Made → Bool
is_on t (draw n) = false
is_on t (table_call call answer) = is_selector t (row_of call).works_on
is_on t (waiting_call call answer) = false

-- any other that doesn't wait leaves a selection there
call-leaves : (l : Limits) (t : ℕ) (call : Made) (acts : List Act) → is_on t call ≡ false → waits call ≡ false
    → IsRun l call acts → LeavesSelector t acts
call-leaves l t (draw n) acts off at_once run =
    subst (LeavesSelector t) (sym run) (one-leaves t (DrawBit n false) refl)
call-leaves l t (table_call call answer) acts off at_once run =
    works_only_there l ((row_of call).lacks_memory answer) call acts answer t run off
call-leaves l t (waiting_call call answer) acts off at_once run = absurd (cc at_once)

-- ---- a selection in progress

record IsBegunOn (s : ℕ) (own : List Act) (x : Selection) : Type 0 where
  begun : IsBegun own x
  on : x.selector.0 ≡ s

-- each selection in progress was begun, and goes on
abbrev AreBegun : List Act → Ongoing → Type 0
AreBegun own now = (s : ℕ) (x : Selection) → now.selection s ≡ Some x → IsBegunOn s own x

longer : (own : List Act) (x : Selection) (acts : List Act) → IsBegun own x → LeavesSelector x.selector.0 acts
    → IsBegun (own ++ acts) x
longer own x acts begun leaves = record {
  earlier = begun.earlier;
  beginning = begun.beginning;
  since = begun.since ++ acts;
  parts = ap (λ xs. xs ++ acts) begun.parts
      ∙ (append_assoc begun.earlier (begun.beginning ++ begun.since) acts
      ∙ ap (λ xs. begun.earlier ++ xs) (append_assoc begun.beginning begun.since acts));
  known = begun.known;
  begins = begun.begins;
  goes_on = has-neither (gives_turn x.selector.0) begun.since acts begun.goes_on leaves.gives;
  unmarked = has-neither (marks_on x.selector.0) begun.since acts begun.unmarked leaves.marks;
  unremoved = has-neither (removes_on x.selector.0) begun.since acts begun.unremoved leaves.removes;
}

longer_on : (s : ℕ) (own : List Act) (x : Selection) (acts : List Act) → IsBegunOn s own x → LeavesSelector s acts
    → IsBegunOn s (own ++ acts) x
longer_on s own x acts here leaves =
    record {
      begun = longer own x acts here.begun (subst (λ (k : ℕ). LeavesSelector k acts) (sym here.on) leaves);
      on = here.on;
    }

-- ---- a step that the caller's turn rules out

-- what a call on the selector did: it left the selection, or found the turn free
record FindsFree (s : SelNo) (found : Act) (acts : List Act) : Type 0 where
  before : List Act
  rest : List Act
  parts : acts ≡ before ++ found ∷ rest
  leaves : LeavesSelector s.0 before

two-leaves : (t : ℕ) (first second : Act) → Spared t (question_of first) → Spared t (question_of second)
    → LeavesSelector t (first ∷ second ∷ [])
two-leaves t first second spared spared' =
    leaves-append t (first ∷ []) (second ∷ []) (one-leaves t first spared) (one-leaves t second spared')

begin-finds : (s : SelNo) (mode : Mode) (known : Option (List LookedKey)) (lacks : Bool)
    → Always (λ acts _. LeavesSelector s.0 acts ⊎ FindsFree s (TakeTurn s None) acts) (try_begin_plan s mode known lacks)
unfolding try_begin_plan
begin-finds s mode known lacks = λ gate asks_gate.
    always_if (λ acts _. LeavesSelector s.0 (gate ∷ acts) ⊎ FindsFree s (TakeTurn s None) (gate ∷ acts))
    (gate_in (answer_of gate)).shut (reply (Err BeginError.ClosedSelector)) (begin_open s mode known lacks)
    (λ _. inl (one-leaves s.0 gate (ap (touches s.0) asks_gate)))
    (λ _ take asks_take. by_take gate (ap (touches s.0) asks_gate) take asks_take)
  where
    by_take : (gate : Act) → Spared s.0 (question_of gate) → (take : Act) → question_of take ≡ Question.take_turn s
        → Always (λ acts _. LeavesSelector s.0 (gate ∷ take ∷ acts)
        ⊎ FindsFree s (TakeTurn s None) (gate ∷ take ∷ acts))
        (if is_some (holder_in (answer_of take)) then reply (Err BeginError.Busy)
        else begin_with_turn s mode known lacks)
    by_take gate spared (TakeTurn s' (Some n)) asks = inl (two-leaves s.0 gate (TakeTurn s' (Some n)) spared refl)
    by_take gate spared (TakeTurn s' None) asks =
        let same : s' ≡ s = cc asks in
        always_weaker (λ _ _. Unit {0})
        (λ acts _. LeavesSelector s.0 (gate ∷ TakeTurn s' None ∷ acts)
        ⊎ FindsFree s (TakeTurn s None) (gate ∷ TakeTurn s' None ∷ acts)) (begin_with_turn s mode known lacks)
        (λ acts _ _. inr
        (record {
          before = gate ∷ [];
          rest = acts;
          parts =
              ap (λ (t : SelNo). gate ∷ TakeTurn t None ∷ acts) same;
          leaves = one-leaves s.0 gate spared;
        }))
        (always_any (begin_with_turn s mode known lacks))
    by_take gate spared _ asks = absurd (cc asks)

finish-finds : (s : SelNo)
    → Always (λ acts _. LeavesSelector s.0 acts ⊎ FindsFree s (Enter s None) acts) (try_finish_plan s)
unfolding try_finish_plan
finish-finds s = λ act asks. by_act act asks
  where
    by_act : (act : Act) → question_of act ≡ Question.enter s
        → Always (λ acts _. LeavesSelector s.0 (act ∷ acts) ⊎ FindsFree s (Enter s None) (act ∷ acts))
        (if is_some (holder_in (answer_of act)) then reply busy else remove_keys s)
    by_act (Enter s' (Some n)) asks = inl (one-leaves s.0 (Enter s' (Some n)) refl)
    by_act (Enter s' None) asks =
        let same : s' ≡ s = cc asks in
        always_weaker (λ _ _. Unit {0})
        (λ acts _. LeavesSelector s.0 (Enter s' None ∷ acts) ⊎ FindsFree s (Enter s None) (Enter s' None ∷ acts))
        (remove_keys s)
        (λ acts _ _. inr
        (record {
          before = [];
          rest = acts;
          parts = ap (λ (t : SelNo). Enter t None ∷ acts) same;
          leaves =
              none-leaves s.0;
        })) (always_any (remove_keys s))
    by_act _ asks = absurd (cc asks)

-- ---- in a legal history

module _ (l : Limits) (events : List Event) (n : CallerNo) (legal : IsLegal l events) where
  -- where the caller did this act, while it had begun the selection
  record Does (x : Selection) (act : Act) : Type 0 where
    past : List Event
    step : IsStep l past (event_of n act)
    turn : is_held_by n ((state_after past).turn x.selector.0) ≡ true

  does : (own before rest : List Act) (x : Selection) (act : Act) → mine n events ≡ own ++ (before ++ act ∷ rest)
      → IsBegun own x → LeavesSelector x.selector.0 before → Does x act
  does own before rest x act did begun leaves =
      let cut = cut_at n events (own ++ before) act rest (did ∙ sym (append_assoc own before (act ∷ rest))) in
      let legal' = subst (IsLegal l) cut.parts legal in
      let legal_past = legal_beginning l cut.past (event_of n act ∷ cut.later) legal' in
      let there : IsBegun (mine n cut.past) x = subst (λ xs. IsBegun xs x) (sym cut.mine_past)
      (longer own x before begun leaves) in
      record {
        past = cut.past;
        step = legal_next l cut.past (event_of n act) cut.later legal';
        turn = (and_parts (has_turn (state_after cut.past) n x.selector) ((state_after cut.past).begun x.selector.0)
            (selections_stand l n cut.past x legal_past there)).0;
      }

  no_free_turn : (s : SelNo) (x : Selection) → x.selector.0 ≡ s.0 → Does x (TakeTurn s None) → ⊥
  no_free_turn s x on at =
      let free : None ≡ (state_after at.past).turn s.0 = cc (at.step.answers) in
      not_free n ((state_after at.past).turn x.selector.0) at.turn (free ∙ ap (state_after at.past).turn (sym on))

  no_free_entry : (s : SelNo) (x : Selection) → x.selector.0 ≡ s.0 → Does x (Enter s None) → ⊥
  no_free_entry s x on at =
      let free : None ≡ (state_after at.past).turn s.0 = cc (at.step.answers) in
      not_free n ((state_after at.past).turn x.selector.0) at.turn (free ∙ ap (state_after at.past).turn (sym on))

  -- what a call on the selector of a selection in progress did left it
  leaves-own : (own acts later : List Act) (s : SelNo) (x : Selection) (found : Act)
      → mine n events ≡ own ++ (acts ++ later) → IsBegunOn s.0 own x → (Does x found → ⊥)
      → LeavesSelector s.0 acts ⊎ FindsFree s found acts → LeavesSelector s.0 acts
  leaves-own own acts later s x found did here never (inl leaves) = leaves
  leaves-own own acts later s x found did here never (inr finds) =
      absurd (never (does own finds.before (finds.rest ++ later) x found
      (did ∙ (ap (λ xs. own ++ (xs ++ later)) finds.parts
      ∙ ap (λ xs. own ++ xs) (append_assoc finds.before (found ∷ finds.rest) later)))
      here.begun (subst (λ (k : ℕ). LeavesSelector k finds.before) (sym here.on) finds.leaves)))

  -- ---- one call more

  put-there : {A : Type 0} (f : ℕ → A) (s : ℕ) (x : A) (t : ℕ) → (s == t) ≡ true → put f s x t ≡ x
  put-there f s x t is = ap (λ b. if b then x else f t) (same_number s t is)

  put-elsewhere : {A : Type 0} (f : ℕ → A) (s : ℕ) (x : A) (t : ℕ) → (s == t) ≡ false → put f s x t ≡ f t
  put-elsewhere f s x t is = ap (λ b. if b then x else f t) (other_number s t is)

  selection-kept : (now : Ongoing) (call : Made) (t : ℕ) → is_on t call ≡ false → waits call ≡ false
      → (after_call now call).selection t ≡ now.selection t
  selection-kept now (table_call (try_begin s mode known) (Ok x)) t off at_once =
      put-elsewhere now.selection s.0 (Some x) t off
  selection-kept now (table_call (try_begin s mode known) (Err refusal)) t off at_once = refl
  selection-kept now (table_call (told x poll) (done answer)) t off at_once =
      put-elsewhere now.selection x.selector.0 None t off
  selection-kept now (table_call (told x poll) (again next)) t off at_once =
      put-elsewhere now.selection x.selector.0 (Some next) t off
  selection-kept now (table_call (leave x) tt) t off at_once = put-elsewhere now.selection x.selector.0 None t off
  selection-kept now (table_call (take_list s) true) t off at_once = refl
  selection-kept now (table_call (take_list s) false) t off at_once = refl
  selection-kept now (table_call (shut s) closing) t off at_once = refl
  selection-kept now (table_call (shut s) already_closed) t off at_once = refl
  selection-kept now (table_call (try_finish s) closed) t off at_once = refl
  selection-kept now (table_call (try_finish s) busy) t off at_once = refl
  selection-kept now (waiting_call (select s mode known polls) answer) t off at_once = absurd (cc at_once)
  selection-kept now (waiting_call (close s) answer) t off at_once = absurd (cc at_once)
  selection-kept now _ t off at_once = refl

  module _ (own acts later : List Act) (did : mine n events ≡ own ++ (acts ++ later)) (now : Ongoing)
      (before : AreBegun own now) where
    -- a call that refuses, or closes, while the selection goes on
    goes_on : (s : SelNo) (t : ℕ) (y : Selection) (found : Act) → (s.0 == t) ≡ true → now.selection t ≡ Some y
        → ((x : Selection) → x.selector.0 ≡ s.0 → Does x found → ⊥)
        → LeavesSelector s.0 acts ⊎ FindsFree s found acts → IsBegunOn t (own ++ acts) y
    goes_on s t y found on is never finds =
        let same : t ≡ s.0 = sym (eqb-true s.0 t on) in
        let here : IsBegunOn s.0 own y = before s.0 y (sym (ap now.selection same) ∙ is) in
        subst (λ (k : ℕ). IsBegunOn k (own ++ acts) y) (sym same)
        (longer_on s.0 own y acts here (leaves-own own acts later s y found did here (never y here.on) finds))

    on-it : (call : Made) → MayCome now call → IsRun l call acts → (t : ℕ) (y : Selection) → is_on t call ≡ true
        → (after_call now call).selection t ≡ Some y → IsBegunOn t (own ++ acts) y
    on-it (table_call (try_begin s mode known) (Ok x)) may run t y on is =
        let same : x ≡ y = cc (sym (put-there now.selection s.0 (Some x) t on) ∙ is) in
        record {
          begun = subst (IsBegun (own ++ acts)) same (begins_selection s mode known own acts x run);
          on = ap (λ (z : Selection). z.selector.0) (sym same)
              ∙ (ap (λ (z : SelNo). z.0) (begin-parts s mode known acts x run).selector ∙ eqb-true s.0 t on);
        }
    on-it (table_call (try_begin s mode known) (Err refusal)) may run t y on is =
        goes_on s t y (TakeTurn s None) on is (no_free_turn s)
        (always_run (λ xs _. LeavesSelector s.0 xs ⊎ FindsFree s (TakeTurn s None) xs)
        (try_begin_plan s mode known (begin_lacks_memory {A = Selection} (Err refusal))) acts (Err refusal)
        (begin-finds s mode known (begin_lacks_memory {A = Selection} (Err refusal))) run)
    on-it (table_call (told x poll) (done answer)) may run t y on is =
        absurd (cc (sym (put-there now.selection x.selector.0 None t on) ∙ is))
    on-it (table_call (told x poll) (again next)) may run t y on is =
        let same : next ≡ y = cc (sym (put-there now.selection x.selector.0 (Some next) t on) ∙ is) in
        record {
          begun = subst (IsBegun (own ++ acts)) same
              (again_goes_on own x next poll acts (before x.selector.0 x may).begun run);
          on = ap (λ (z : Selection). z.selector.0) (sym same ∙ again-same x next poll.pairs poll.elapsed acts run)
              ∙ eqb-true x.selector.0 t on;
        }
    on-it (table_call (leave x) tt) may run t y on is =
        absurd (cc (sym (put-there now.selection x.selector.0 None t on) ∙ is))
    on-it (table_call (try_finish s) closed) may run t y on is =
        goes_on s t y (Enter s None) on is (no_free_entry s)
        (always_run (λ xs _. LeavesSelector s.0 xs ⊎ FindsFree s (Enter s None) xs) (try_finish_plan s) acts closed
        (finish-finds s) run)
    on-it (table_call (try_finish s) busy) may run t y on is =
        goes_on s t y (Enter s None) on is (no_free_entry s)
        (always_run (λ xs _. LeavesSelector s.0 xs ⊎ FindsFree s (Enter s None) xs) (try_finish_plan s) acts busy
        (finish-finds s) run)
    on-it _ may run t y on is = absurd (cc on)

    call-begun : (call : Made) → waits call ≡ false → MayCome now call → IsRun l call acts
        → AreBegun (own ++ acts) (after_call now call)
    call-begun call at_once may run t y is = by_test (is_on t call) refl
      where
        by_test : (b : Bool) → is_on t call ≡ b → IsBegunOn t (own ++ acts) y
        by_test true on = on-it call may run t y on is
        by_test false off =
            longer_on t own y acts (before t y (sym (selection-kept now call t off at_once) ∙ is))
            (call-leaves l t call acts off at_once run)

  calls-begun : (own rest : List Act) (now : Ongoing) (calls : List Made) → All (λ call. IsFalse (waits call)) calls
      → mine n events ≡ own ++ rest → AreRuns l calls rest → AreInOrder now calls → AreBegun own now
      → AreBegun (mine n events) (after_calls now calls)
  calls-begun own rest now [] at_once did runs order before =
      subst (λ xs. AreBegun xs now) (sym (did ∙ (ap (λ xs. own ++ xs) runs ∙ append-nil own))) before
  calls-begun own rest now (call ∷ later) at_once did runs order before =
      let did' : mine n events ≡ own ++ (runs.first ++ runs.second) = did ∙ ap (λ xs. own ++ xs) runs.parts in
      calls-begun (own ++ runs.first) runs.second (after_call now call) later
      (All-tail (λ c. IsFalse (waits c)) call later at_once) (did' ∙ sym (append_assoc own runs.first runs.second))
      runs.is_second order.1
      (call-begun own runs.first runs.second did' now before call (All-head (λ c. IsFalse (waits c)) call later at_once)
      order.0 runs.is_first)

pub ongoing_is_begun : OngoingIsBegun
ongoing_is_begun l events n calls s x legal are is =
    let plain = calls_without_waiting l (mine n events) calls are in
    let here = calls-begun l events n legal [] (mine n events) nothing_ongoing plain.calls plain.unwaiting refl
    plain.runs plain.in_order (λ t y none. absurd (cc none)) s.0 x
    (ap (λ (now : Ongoing). now.selection s.0) plain.leaves ∙ is) in
    (here.begun, ap (λ (k : ℕ). record { 0 = k }) here.on)

-- ---- closing

-- each selector whose closing is in progress was shut
abbrev AreClosing : List Act → Ongoing → Type 0
AreClosing own now = (s : SelNo) → now.closes s.0 ≡ true → IsClosing own s

-- a `shut` that answers Closing shut the selector
shut-contains : (s : SelNo) → Always (λ xs r. r ≡ closing → Contains xs (ShutBit s false)) (shut_plan s)
unfolding shut_plan
shut-contains s = λ act asks. by_act act asks
  where
    by_act : (act : Act) → question_of act ≡ Question.shut_bit s
        → (if flag_in (answer_of act) then already_closed else closing) ≡ closing
        → Contains (act ∷ []) (ShutBit s false)
    by_act (ShutBit k true) asks is = absurd (cc is)
    by_act (ShutBit k false) asks is = let same : k ≡ s =
        cc asks in
        subst (λ (j : SelNo). Contains (ShutBit j false ∷ []) (ShutBit s false)) (sym same)
        (contains-middle [] (ShutBit s false) [])
    by_act _ asks is = absurd (cc asks)

module _ (l : Limits) where
  closing-longer : (own acts : List Act) (now : Ongoing) → AreClosing own now → AreClosing (own ++ acts) now
  closing-longer own acts now before s is = Contains-append_left own acts (ShutBit s false) (before s is)

  call-closing : (own acts : List Act) (now : Ongoing) (call : Made) → IsRun l call acts → waits call ≡ false
      → AreClosing own now → AreClosing (own ++ acts) (after_call now call)
  call-closing own acts now (table_call (shut s) closing) run at_once before t is = by_test (s.0 == t.0) refl
    where
      by_test : (b : Bool) → (s.0 == t.0) ≡ b → IsClosing (own ++ acts) t
      by_test true same =
          let s_is : s ≡ t = ap (λ (k : ℕ). record { 0 = k }) (eqb-true s.0 t.0 same) in
          subst (λ (k : SelNo). IsClosing (own ++ acts) k) s_is
          (Contains-append_right own acts (ShutBit s false)
          (always_run (λ xs r. r ≡ closing → Contains xs (ShutBit s false)) (shut_plan s) acts closing
          (shut-contains s) run refl))
      by_test false other =
          closing-longer own acts now before t
          (sym (ap (λ b. if b then true else now.closes t.0) (other_number s.0 t.0 other)) ∙ is)
  call-closing own acts now (table_call (try_finish s) closed) run at_once before t is =
      closing-longer own acts now before t (by_test (t.0 == s.0) is)
    where
      by_test : (b : Bool) → (if b then false else now.closes t.0) ≡ true → now.closes t.0 ≡ true
      by_test true none = absurd (cc none)
      by_test false is' = is'
  call-closing own acts now (table_call (try_begin s mode known) (Ok x)) run at_once before t is =
      closing-longer own acts now before t is
  call-closing own acts now (table_call (try_begin s mode known) (Err refusal)) run at_once before t is =
      closing-longer own acts now before t is
  call-closing own acts now (table_call (told x poll) (done answer)) run at_once before t is =
      closing-longer own acts now before t is
  call-closing own acts now (table_call (told x poll) (again next)) run at_once before t is =
      closing-longer own acts now before t is
  call-closing own acts now (table_call (take_list s) true) run at_once before t is =
      closing-longer own acts now before t is
  call-closing own acts now (table_call (take_list s) false) run at_once before t is =
      closing-longer own acts now before t is
  call-closing own acts now (table_call (shut s) already_closed) run at_once before t is =
      closing-longer own acts now before t is
  call-closing own acts now (table_call (try_finish s) busy) run at_once before t is =
      closing-longer own acts now before t is
  call-closing own acts now (waiting_call (select s mode known polls) answer) run at_once before t is = absurd (cc at_once)
  call-closing own acts now (waiting_call (close s) answer) run at_once before t is = absurd (cc at_once)
  call-closing own acts now _ run at_once before t is = closing-longer own acts now before t is

  calls-closing : (own rest : List Act) (now : Ongoing) (calls : List Made) → All (λ call. IsFalse (waits call)) calls
      → AreRuns l calls rest → AreClosing own now → AreClosing (own ++ rest) (after_calls now calls)
  calls-closing own rest now [] at_once runs before =
      subst (λ xs. AreClosing xs now) (sym (ap (λ xs. own ++ xs) runs ∙ append-nil own)) before
  calls-closing own rest now (call ∷ later) at_once runs before =
      subst (λ xs. AreClosing xs (after_calls (after_call now call) later))
      (append_assoc own runs.first runs.second ∙ ap (λ xs. own ++ xs) (sym runs.parts))
      (calls-closing (own ++ runs.first) runs.second (after_call now call) later
      (All-tail (λ c. IsFalse (waits c)) call later at_once) runs.is_second
      (call-closing own runs.first now call runs.is_first (All-head (λ c. IsFalse (waits c)) call later at_once)
      before))

pub ongoing_is_closing : OngoingIsClosing
ongoing_is_closing l acts calls s are is =
    let plain = calls_without_waiting l acts calls are in
    calls-closing l [] acts nothing_ongoing plain.calls plain.unwaiting plain.runs (λ t none. absurd (cc none)) s
    (ap (λ (now : Ongoing). now.closes s.0) plain.leaves ∙ is)

-- ---- by the progress that is kept of it

-- the caller's selection in progress was begun
pub made_begun : (l : Limits) (events : List Event) (n : CallerNo) (now : Progress) (s : SelNo) (x : Selection)
    → IsLegal l events → HasMade l (mine n events) n now → own_selection now n s ≡ Some x
    → IsBegun (mine n events) x × (x.selector ≡ s)
made_begun l events n now s x legal made own =
    ongoing_is_begun l events n made.calls s x legal made.are (made.ongoing.selection s.0 ∙ own)

-- and the selector that it closes was shut by it
pub made_closing : (l : Limits) (acts : List Act) (n : CallerNo) (now : Progress) (s : SelNo) → HasMade l acts n now
    → is_caller n (now.closing s.0) ≡ true → IsClosing acts s
made_closing l acts n now s made by = ongoing_is_closing l acts made.calls s made.are (made.ongoing.closes s.0 ∙ by)
