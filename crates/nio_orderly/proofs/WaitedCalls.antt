-- A call that waits is a list of whole calls: the tries, and the one that says that it is over.
use Rattle.std.proofs.Common.{◌≡◌, ℕ, ◌==◌, Bool, true, false, if◌then◌else◌, Option, Some, None, Result, Ok, Err, List}
use Rattle.std.proofs.Common.{[], ◌∷◌, ◌++◌, refl, ap, sym, ◌∙◌, subst}
use Rattle.std.specs.List.{All}
use Rattle.std.proofs.lemmas.List.Elements.{All-nil, All-append, All-head, All-tail}
use Rattle.nio_base.specs.declared.limits.Limits.{Limits}
use Rattle.nio_base.specs.declared.numbers.SelNo.{SelNo}
use Rattle.nio_history.proofs.Put.{put-same}
use Rattle.nio_history.specs.Questions.{answer_of}
use Rattle.nio_history.specs.State.{put}
use Rattle.nio_history.specs.declared.act.Act.{Act}
use Rattle.nio_history.specs.declared.found.Mode.{Mode}
use Rattle.nio_orderly.proofs.CallLists.{runs_append, order_append, run_one}
use Rattle.nio_orderly.specs.Made.{Made, draw, IsRun, after_call, after_calls, table_call, waiting_call, MayCome}
use Rattle.nio_orderly.specs.Made.{AreInOrder}
use Rattle.nio_orderly.specs.Orderly.{AreRuns}
use Rattle.nio_orderly.specs.Waited.{waits, AreCallsFrom, WaitingCallsAreCalls, CallsWithoutWaiting}
use Rattle.nio_steps.proofs.BeginLaws.{begin-parts}
use Rattle.nio_steps.proofs.Lists.{all-one}
use Rattle.nio_steps.proofs.Walks.{Always, always_bind, always_if, always_any, always_run}
use Rattle.nio_steps.specs.ChannelCalls.{finds_held}
use Rattle.nio_steps.specs.Ongoing.{Ongoing, nothing_ongoing, selecting, begun_by, closes_on, changed, close_change}
use Rattle.nio_steps.specs.Ongoing.{select_change}
use Rattle.nio_steps.specs.PipeCalls.{waits_for_bytes}
use Rattle.nio_steps.specs.Plan.{reply, ◌>>◌}
use Rattle.nio_steps.specs.Runs.{Completes}
use Rattle.nio_steps.specs.SelectCalls.{Selection, Begins, begin_finds_busy, Poll, Tells, goes_on_after, ToldReply}
use Rattle.nio_steps.specs.SelectCalls.{done, again, told_plan, mark_entry, after_marks, is_again, why_ended}
use Rattle.nio_steps.specs.SelectCalls.{remove_all_cancelled, end_selection, SelectReply, selected, not_begun, left}
use Rattle.nio_steps.specs.SelectCalls.{SelectsRest, MakesSelection, ShutReply, closing, already_closed, FinishReply, closed, busy}
use Rattle.nio_steps.specs.SelectCalls.{finish_finds_busy, ClosesRest, shut_plan, try_finish_plan}
use Rattle.nio_steps.specs.Steps.{flag_in, gate_in, end_wake, give_turn}
use Rattle.nio_steps.specs.Sweeps.{sweep_over}
use Rattle.nio_steps.specs.TableCalls.{TableCall, row_of, try_set_blocking, try_register, try_begin, told, leave, shut}
use Rattle.nio_steps.specs.TableCalls.{try_finish, try_read, try_write, set_blocking, register, select, close, read}
use Rattle.nio_steps.specs.TableCalls.{write, IsItsList}
use Rattle.nio_steps.specs.Waiting.{Then, Run, acts_of, Tries, Repeats}
use Rattle.nio_steps.specs.declared.looked.LookedKey.{LookedKey}
use Rattle.nio_steps.specs.declared.refusal.BeginError.{BeginError}
use Rattle.nio_steps.specs.declared.selected.Selected.{Selected}

-- ---- calls one after the other

-- the acts are those of whole calls, after which so much is in progress
record CallsTo (l : Limits) (now : Ongoing) (acts : List Act) (Then' : Ongoing → Type 0) : Type 0 where
  calls : List Made
  unwaiting : All (λ call. waits call ≡ false) calls
  runs : AreRuns l calls acts
  in_order : AreInOrder now calls
  after : Then' (after_calls now calls)

pub after_calls-append : (now : Ongoing) (calls later : List Made)
    → after_calls now (calls ++ later) ≡ after_calls (after_calls now calls) later
after_calls-append now [] later = refl
after_calls-append now (call ∷ calls) later = after_calls-append (after_call now call) calls later

no_calls : (l : Limits) (now : Ongoing) (Then' : Ongoing → Type 0) → Then' now → CallsTo l now [] Then'
no_calls l now Then' here =
    record { calls = []; unwaiting = All-nil (λ call. waits call ≡ false); runs = refl; in_order = tt; after = here }

one_call : (l : Limits) (now : Ongoing) (acts : List Act) (Then' : Ongoing → Type 0) (call : Made) → waits call ≡ false
    → IsRun l call acts → MayCome now call → Then' (after_call now call)
    → CallsTo l now acts Then'
one_call l now acts Then' call is run may here =
    record {
      calls = call ∷ [];
      unwaiting = all-one (λ x. waits x ≡ false) call is;
      runs = run_one l call acts run;
      in_order = (may, tt);
      after = here;
    }

then_calls : (l : Limits) (now : Ongoing) (xs ys : List Act) (Mid Then' : Ongoing → Type 0) → CallsTo l now xs Mid
    → ((now' : Ongoing) → Mid now' → CallsTo l now' ys Then') → CallsTo l now (xs ++ ys) Then'
then_calls l now xs ys Mid Then' first later =
    let second = later (after_calls now first.calls) first.after in
    record {
      calls = first.calls ++ second.calls;
      unwaiting = All-append (λ call. waits call ≡ false) first.calls second.calls first.unwaiting second.unwaiting;
      runs = runs_append l first.calls second.calls xs ys first.runs second.runs;
      in_order = order_append now first.calls second.calls first.in_order second.in_order;
      after = subst Then' (sym (after_calls-append now first.calls second.calls)) second.after;
    }

-- so much is in progress
abbrev Now : Ongoing → Ongoing → Type 0
Now after now = now ≡ after

calls_from : (l : Limits) (now : Ongoing) (acts : List Act) (after : Ongoing) → CallsTo l now acts (Now after)
    → AreCallsFrom l now acts after
calls_from l now acts after made =
    record {
      calls = made.calls;
      unwaiting = made.unwaiting;
      runs = made.runs;
      in_order = made.in_order;
      leaves = made.after;
    }

-- ---- the same call again and again

-- each run of the shape is such a call, which may come, and leaves it so that it may come again
abbrev MayRepeat : {X R : Type 0} → Limits → (X → List Act → R → Type 0) → (X → R → Bool) → (Ongoing → Type 0)
    → (X → R → Made) → Type 0
MayRepeat {X} {R} l Shape goes_on Stays call =
    (now : Ongoing) (x : X) (acts : List Act) (r : R) → Stays now → Shape x acts r → goes_on x r ≡ true
    → (waits (call x r) ≡ false) × IsRun l (call x r) acts × MayCome now (call x r) × Stays (after_call now (call x r))

runs_calls : {X R : Type 0} (l : Limits) (Shape : X → List Act → R → Type 0) (goes_on : X → R → Bool)
    (Stays : Ongoing → Type 0) (call : X → R → Made) → MayRepeat l Shape goes_on Stays call
    → (runs : List (Run X R)) → All (λ run. Shape run.given run.acts run.answer) runs
    → All (λ run. goes_on run.given run.answer ≡ true) runs
    → (now : Ongoing) → Stays now → CallsTo l now (acts_of runs) Stays
runs_calls l Shape goes_on Stays call repeats [] made goes now here = no_calls l now Stays here
runs_calls l Shape goes_on Stays call repeats (run ∷ later) made goes now here =
    let its = repeats now run.given run.acts run.answer here
    (All-head (λ r. Shape r.given r.acts r.answer) run later made)
    (All-head (λ r. goes_on r.given r.answer ≡ true) run later goes) in
    then_calls l now run.acts (acts_of later) Stays Stays
    (one_call l now run.acts Stays (call run.given run.answer) its.0 its.1 its.2 its.3)
    (λ now' here'. runs_calls l Shape goes_on Stays call repeats later
    (All-tail (λ r. Shape r.given r.acts r.answer) run later made)
    (All-tail (λ r. goes_on r.given r.answer ≡ true) run later goes) now' here')

tries_calls : {X R : Type 0} (l : Limits) (Shape : X → List Act → R → Type 0) (goes_on : X → R → Bool)
    (Stays : Ongoing → Type 0) (call : X → R → Made) → MayRepeat l Shape goes_on Stays call
    → (acts : List Act) → Tries Shape goes_on acts → (now : Ongoing) → Stays now → CallsTo l now acts Stays
tries_calls l Shape goes_on Stays call repeats acts tries now here =
    subst (λ xs. CallsTo l now xs Stays) (sym tries.parts)
    (runs_calls l Shape goes_on Stays call repeats tries.runs tries.made tries.again now here)

-- and then one that says that it is over
repeats_calls : {X R : Type 0} (l : Limits) (Shape : X → List Act → R → Type 0) (goes_on : X → R → Bool)
    (Stays Over : Ongoing → Type 0) (call : X → R → Made) → MayRepeat l Shape goes_on Stays call
    → (acts : List Act) (answer : R) → Repeats Shape goes_on acts answer
    → ((now : Ongoing) (x : X) (xs : List Act) → Stays now → Shape x xs answer → CallsTo l now xs Over)
    → (now : Ongoing) → Stays now → CallsTo l now acts Over
repeats_calls l Shape goes_on Stays Over call repeats acts answer done' last now here =
    subst (λ xs. CallsTo l now xs Over) (sym done'.parts)
    (then_calls l now done'.before done'.last.acts Stays Over
    (tries_calls l Shape goes_on Stays call repeats done'.before done'.tries now here)
    (λ now' here'. last now' done'.last.given done'.last.acts here'
    (subst (Shape done'.last.given done'.last.acts) done'.answers done'.made)))

-- ---- calls that leave what is in progress

abbrev IsMadeOfCalls : {R : Type 0} → Limits → (List Act → R → Type 0) → (Ongoing → R → Ongoing) → Type 0
IsMadeOfCalls {R} l Shape leaves = (now : Ongoing) (acts : List Act) (answer : R) → Shape acts answer
    → AreCallsFrom l now acts (leaves now answer)

-- one call again and again, which may always come and leaves what is in progress
same-calls : {X : Type 0} (l : Limits) (call : TableCall) (goes_on : X → (row_of call).Reply → Bool)
    → ((now : Ongoing) (answer : (row_of call).Reply)
    → MayCome now (table_call call answer) × (after_call now (table_call call answer) ≡ now))
    → (now : Ongoing) (acts : List Act) (answer : (row_of call).Reply)
    → Repeats (λ (_ : X) xs r. IsRun l (table_call call r) xs) goes_on acts answer → AreCallsFrom l now acts now
same-calls {X = X} l call goes_on stays now acts answer repeats =
    calls_from l now acts now
    (repeats_calls l (λ (_ : X) xs r. IsRun l (table_call call r) xs) goes_on (Now now) (Now now)
    (λ _ r. table_call call r)
    (λ now' _ xs r here run _. (refl, run, (stays now' r).0, (stays now' r).1 ∙ here)) acts answer repeats
    (λ now' _ xs here run. one_call l now' xs (Now now) (table_call call answer) refl run (stays now' answer).0
    ((stays now' answer).1 ∙ here)) now refl)

-- ---- closing a selector

put-twice : {A : Type 0} (f : ℕ → A) (i : ℕ) (x y : A) → put (put f i x) i y ≡ put f i y
put-twice f i x y = λ j n. once n (n == i) j
  where
    once : (n : ℕ) (b : Bool) → (if b then y else (if b then x else f n)) ≡ (if b then y else f n)
    once n true = refl
    once n false = refl

close-calls : (l : Limits) (s : SelNo)
    → IsMadeOfCalls l (Then (Completes (shut_plan s)) (ClosesRest s)) (λ now answer. changed now
    (close_change s answer))
close-calls l s now acts answer both =
    subst (λ xs. AreCallsFrom l now xs (changed now (close_change s answer))) (sym both.parts)
    (by_reply both.middle both.runs_first both.runs_second)
  where
    by_reply : (middle : ShutReply) → Completes (shut_plan s) both.first middle → ClosesRest s middle both.second answer
        → AreCallsFrom l now (both.first ++ both.second) (changed now (close_change s answer))
    by_reply closing first second =
        calls_from l now (both.first ++ both.second) (changed now (close_change s answer))
        (subst (λ b. CallsTo l now (both.first ++ both.second) (Now (changed now (close_change s b)))) (sym second.0)
        (then_calls l now both.first both.second (Now shut_now) (Now (closes_on now s false))
        (one_call l now both.first (Now shut_now) (table_call (shut s) closing) refl first tt refl)
        (λ now' here. repeats_calls l (λ (_ : Unit {0}). Completes (try_finish_plan s)) (λ _. finish_finds_busy)
        (Now shut_now) (Now (closes_on now s false)) (λ _ r. table_call (try_finish s) r)
        (λ now'' _ xs r here' run goes. (refl, run, may now'' here', still now'' r here' goes)) both.second closed
        second.1
        (λ now'' _ xs here' run. one_call l now'' xs (Now (closes_on now s false)) (table_call (try_finish s) closed)
        refl run (may now'' here')
        (ap (λ n. closes_on n s false) here'
        ∙ ap (λ f. record now { closes = f }) (put-twice now.closes s.0 true false))) now' here)))
      where
        shut_now : Ongoing
        shut_now = closes_on now s true

        may : (now'' : Ongoing) → now'' ≡ shut_now → now''.closes s.0 ≡ true
        may now'' here' = ap (λ n. n.closes s.0) here' ∙ put-same now.closes s.0 true

        still : (now'' : Ongoing) (r : FinishReply) → now'' ≡ shut_now → finish_finds_busy r ≡ true
            → after_call now'' (table_call (try_finish s) r) ≡ shut_now
        still now'' busy here' is = here'
        still now'' closed here' is = absurd (cc is)
    by_reply already_closed first second =
        calls_from l now (both.first ++ both.second) (changed now (close_change s answer))
        (subst (λ b. CallsTo l now (both.first ++ both.second) (Now (changed now (close_change s b)))) (sym second.0)
        (then_calls l now both.first both.second (Now now) (Now now)
        (one_call l now both.first (Now now) (table_call (shut s) already_closed) refl first tt refl)
        (λ now' here. subst (λ xs. CallsTo l now' xs (Now now)) (sym second.1) (no_calls l now' (Now now) here))))

-- ---- selecting

-- a `told` that answers Again goes on with the same selection
abbrev pub GoesOn : Selection → ToldReply → Type 0
GoesOn selection (done answer) = Unit {0}
GoesOn selection (again next) = next ≡ selection

ends-over : (selection : Selection) (answer : Selected)
    → Always (λ _ r. GoesOn selection r) (end_selection selection answer)
ends-over selection answer =
    always_bind (λ _ _. Unit {0}) (λ _ r. GoesOn selection r)
    (remove_all_cancelled selection.selector selection.listed)
    (λ _. (end_wake selection.selector >> give_turn selection.selector >> reply (done answer)))
    (always_any (remove_all_cancelled selection.selector selection.listed))
    (λ _ _ _ woken asks given asks'. tt)

pub told-goes_on : (selection : Selection) (pairs : List (ℕ × ℕ)) (elapsed : Bool)
    → Always (λ _ r. GoesOn selection r) (told_plan selection pairs elapsed)
unfolding told_plan
told-goes_on selection pairs elapsed =
    always_bind (λ _ _. Unit {0}) (λ _ r. GoesOn selection r)
    (sweep_over selection.looked (mark_entry selection.selector pairs) 0) (after_marks selection elapsed)
    (always_any _)
    (λ xs count _ look asks look' asks'.
    let gate = gate_in (answer_of look) in
    let is_interrupted = flag_in (answer_of look') in
    let answer : Selected = record { count = count; why = why_ended selection.mode count gate is_interrupted } in
    always_if (λ _ r. GoesOn selection r) (is_again selection.mode count gate is_interrupted elapsed)
    (reply (again selection)) (end_selection selection answer) (λ _. refl)
    (λ _. ends-over selection answer))

-- the caller has this selection in progress, and else what it had before
abbrev Selecting : Ongoing → Selection → Ongoing → Type 0
Selecting now selection = Now (selecting now selection.selector (Some selection))

may_tell : (now : Ongoing) (selection : Selection) (now' : Ongoing) → Selecting now selection now'
    → now'.selection selection.selector.0 ≡ Some selection
may_tell now selection now' here =
    ap (λ n. n.selection selection.selector.0) here ∙ put-same now.selection selection.selector.0 (Some selection)

then_selecting : (now : Ongoing) (selection : Selection) (now' : Ongoing) (x : Option Selection)
    → Selecting now selection now' → selecting now' selection.selector x ≡ selecting now selection.selector x
then_selecting now selection now' x here =
    ap (λ n. selecting n selection.selector x) here
    ∙ ap (λ f. record now { selection = f }) (put-twice now.selection selection.selector.0 (Some selection) x)

told-repeats : (l : Limits) (now : Ongoing) (selection : Selection)
    → MayRepeat l (Tells selection) goes_on_after (Selecting now selection)
    (λ poll r. table_call (told selection poll) r)
told-repeats l now selection now' poll acts (done answer) here run goes = absurd (cc goes)
told-repeats l now selection now' poll acts (again next) here run goes =
    let same : next ≡ selection = always_run (λ _ r. GoesOn selection r) (told_plan selection poll.pairs poll.elapsed)
    acts (again next) (told-goes_on selection poll.pairs poll.elapsed) run in (
      refl,
      run,
      may_tell now selection now' here,
      ap (λ (x : Selection). selecting now' selection.selector (Some x)) same
          ∙ then_selecting now selection now' (Some selection) here,
    )

selection-calls : (l : Limits) (now : Ongoing) (polls : List Poll) (selection : Selection) (acts : List Act)
    (answer : SelectReply) → SelectsRest polls (Ok selection) acts answer
    → (now' : Ongoing) → Selecting now selection now'
    → CallsTo l now' acts (Now (selecting now selection.selector None))
selection-calls l now polls selection acts (selected answer) rest now' here =
    repeats_calls l (Tells selection) goes_on_after (Selecting now selection)
    (Now (selecting now selection.selector None)) (λ poll r. table_call (told selection poll) r)
    (told-repeats l now selection) acts (done answer) rest.tells
    (λ now'' poll xs here' run. one_call l now'' xs (Now (selecting now selection.selector None))
    (table_call (told selection poll) (done answer)) refl run (may_tell now selection now'' here')
    (then_selecting now selection now'' None here')) now' here
selection-calls l now polls selection acts (not_begun refusal) rest now' here = absurd rest
selection-calls l now polls selection acts left rest now' here =
    subst (λ xs. CallsTo l now' xs (Now (selecting now selection.selector None))) (sym rest.parts)
    (then_calls l now' rest.told rest.leaves (Selecting now selection) (Now (selecting now selection.selector None))
    (tries_calls l (Tells selection) goes_on_after (Selecting now selection)
    (λ poll r. table_call (told selection poll) r) (told-repeats l now selection) rest.told rest.tells now' here)
    (λ now'' here'. one_call l now'' rest.leaves (Now (selecting now selection.selector None))
    (table_call (leave selection) tt) refl rest.left (may_tell now selection now'' here')
    (then_selecting now selection now'' None here')))

-- what else is in progress after a beginning: a selection by the list took that on
abbrev taken_on : Ongoing → SelNo → Selection → Ongoing
taken_on now s selection =
    record now { list = if selection.listed then put now.list s.0 (Some selection.looked) else now.list }

-- what is in progress after a beginning
abbrev AfterBegin : Ongoing → SelNo → Result Selection BeginError → Ongoing → Type 0
AfterBegin now s (Ok selection) now' =
    (selection.selector ≡ s) × Selecting (taken_on now s selection) selection now'
AfterBegin now s (Err refusal) now' = now' ≡ now

module _ (l : Limits) (s : SelNo) (mode : Mode) (known : Option (List LookedKey)) (now : Ongoing)
    (may : IsItsList s known now) where
  may_begin : (now' : Ongoing) → now' ≡ now → IsItsList s known now'
  may_begin now' here = subst (IsItsList s known) (sym here) may

  begins-calls : (answer : Result Selection BeginError) (acts : List Act) → Begins s mode known acts answer
      → (now' : Ongoing) → now' ≡ now → CallsTo l now' acts (AfterBegin now s answer)
  begins-calls (Ok selection) acts begins now' here =
      let its = (begin-parts s mode known acts selection begins).selector in
      one_call l now' acts (AfterBegin now s (Ok selection)) (table_call (try_begin s mode known) (Ok selection)) refl
      begins (may_begin now' here) (
        its,
        ap (λ n. begun_by n s selection) here
            ∙ ap (λ (t : SelNo). selecting (taken_on now s selection) t (Some selection)) (sym its),
      )
  begins-calls (Err refusal) acts begins now' here =
      one_call l now' acts (AfterBegin now s (Err refusal)) (table_call (try_begin s mode known) (Err refusal)) refl
      begins (may_begin now' here) here

  begins-repeat : MayRepeat l (λ (_ : Unit {0}). Begins s mode known) (λ _. begin_finds_busy) (Now now)
      (λ _ r. table_call (try_begin s mode known) r)
  begins-repeat now' _ acts (Ok selection) here run goes = absurd (cc goes)
  begins-repeat now' _ acts (Err refusal) here run goes = (refl, run, may_begin now' here, here)

  select-calls : (polls : List Poll) (acts : List Act) (answer : SelectReply)
      (both : MakesSelection s mode known polls acts answer)
      → AreCallsFrom l now acts (changed now (select_change s both.middle))
  select-calls polls acts answer both =
      subst (λ xs. AreCallsFrom l now xs (changed now (select_change s both.middle))) (sym both.parts)
      (calls_from l now (both.first ++ both.second) (changed now (select_change s both.middle))
      (then_calls l now both.first both.second (AfterBegin now s both.middle)
      (Now (changed now (select_change s both.middle)))
      (repeats_calls l (λ (_ : Unit {0}). Begins s mode known) (λ _. begin_finds_busy) (Now now)
      (AfterBegin now s both.middle) (λ _ r. table_call (try_begin s mode known) r) begins-repeat both.first both.middle
      both.runs_first (λ now' _ xs here begins. begins-calls both.middle xs begins now' here) now refl)
      (by_beginning both.middle both.runs_second)))
    where
      by_beginning : (middle : Result Selection BeginError) → SelectsRest polls middle both.second answer
          → (now' : Ongoing) → AfterBegin now s middle now'
          → CallsTo l now' both.second (Now (changed now (select_change s middle)))
      by_beginning (Ok selection) rest now' here =
          subst (λ (after : Ongoing). CallsTo l now' both.second (Now after))
          (ap (λ (t : SelNo). selecting (taken_on now s selection) t None) here.0
          ∙ ap (λ f. record (taken_on now s selection) { selection = f })
          (sym (put-twice now.selection s.0 (Some selection) None)))
          (selection-calls l (taken_on now s selection) polls selection both.second answer rest now' here.1)
      by_beginning (Err refusal) rest now' here =
          subst (λ xs. CallsTo l now' xs (Now now)) (sym rest.0) (no_calls l now' (Now now) here)

pub waiting_calls_are_calls : WaitingCallsAreCalls
waiting_calls_are_calls l (draw n) acts now is run may = absurd (cc is)
waiting_calls_are_calls l (table_call call answer) acts now is run may = absurd (cc is)
waiting_calls_are_calls l (waiting_call (set_blocking c on) answer) acts now is run may =
    same-calls l (try_set_blocking c on) (λ (_ : Unit {0}). finds_held) (λ _ _. (tt, refl)) now acts answer run
waiting_calls_are_calls l (waiting_call (register s c ops att) answer) acts now is run may =
    same-calls l (try_register s c ops att) (λ (_ : Unit {0}). finds_held) (λ _ _. (tt, refl)) now acts answer run
waiting_calls_are_calls l (waiting_call (select s mode known polls) outcome) acts now is run may =
    subst (λ begun. AreCallsFrom l now acts (changed now (select_change s begun))) run.begun
    (select-calls l s mode known now may polls acts outcome.answer run.makes)
waiting_calls_are_calls l (waiting_call (close s) answer) acts now is run may = close-calls l s now acts answer run
waiting_calls_are_calls l (waiting_call (read source none) answer) acts now is run may =
    same-calls l (try_read source) waits_for_bytes (λ _ _. (tt, refl)) now acts run.found run.runs
waiting_calls_are_calls l (waiting_call (write source sink none) answer) acts now is run may =
    same-calls l (try_write source sink) waits_for_bytes (λ _ _. (tt, refl)) now acts run.found run.runs

-- ---- lists of calls

call_unwaiting : (l : Limits) (call : Made) (acts : List Act) (now : Ongoing) → IsRun l call acts → MayCome now call
    → CallsTo l now acts (Now (after_call now call))
call_unwaiting l (draw n) acts now run may = one_call l now acts (Now now) (draw n) refl run may refl
call_unwaiting l (table_call call answer) acts now run may =
    one_call l now acts (Now (after_call now (table_call call answer))) (table_call call answer) refl run may refl
call_unwaiting l (waiting_call call answer) acts now run may =
    let its = waiting_calls_are_calls l (waiting_call call answer) acts now refl run may in
    record {
      calls = its.calls;
      unwaiting = its.unwaiting;
      runs = its.runs;
      in_order = its.in_order;
      after = its.leaves;
    }

calls_unwaiting : (l : Limits) (calls : List Made) (acts : List Act) (now now' : Ongoing) → now' ≡ now
    → AreRuns l calls acts → AreInOrder now calls → CallsTo l now' acts (Now (after_calls now calls))
calls_unwaiting l [] acts now now' here none order =
    subst (λ xs. CallsTo l now' xs (Now now)) (sym none) (no_calls l now' (Now now) here)
calls_unwaiting l (call ∷ calls) acts now now' here runs order =
    subst (λ xs. CallsTo l now' xs (Now (after_calls (after_call now call) calls))) (sym runs.parts)
    (subst (λ n. CallsTo l n (runs.first ++ runs.second) (Now (after_calls (after_call now call) calls))) (sym here)
    (then_calls l now runs.first runs.second (Now (after_call now call)) (Now (after_calls (after_call now call) calls))
    (call_unwaiting l call runs.first now runs.is_first order.0)
    (λ now'' here'. calls_unwaiting l calls runs.second (after_call now call) now'' here' runs.is_second order.1)))

pub calls_without_waiting : CallsWithoutWaiting
calls_without_waiting l acts calls are =
    calls_from l nothing_ongoing acts (after_calls nothing_ongoing calls)
    (calls_unwaiting l calls acts nothing_ongoing nothing_ongoing refl are.runs are.in_order)
