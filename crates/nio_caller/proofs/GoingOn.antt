-- After each call its caller has no pin. A selection that it has in progress stays in progress, unless the call tells or leaves
-- it.
use Rattle.std.proofs.Common.{◌≡◌, ℕ, ◌==◌, Bool, true, false, if◌then◌else◌, inl, inr, Option, Some, None, is_some, IsFalse}
use Rattle.std.proofs.Common.{Result, Ok, Err, List, [], ◌∷◌, ◌++◌, refl, ap, sym, ◌∙◌, subst, eqb-true, eq-eqb, All}
use Rattle.std.proofs.lemmas.List.Elements.{All-head, All-tail}
use Rattle.nio_base.specs.declared.kind.Kind.{Kind}
use Rattle.nio_base.specs.declared.limits.Limits.{Limits}
use Rattle.nio_base.specs.declared.numbers.CallerNo.{CallerNo}
use Rattle.nio_base.specs.declared.numbers.ChanId.{ChanId}
use Rattle.nio_base.specs.declared.numbers.KeyNo.{KeyNo}
use Rattle.nio_base.specs.declared.numbers.SelNo.{SelNo}
use Rattle.nio_history.specs.Questions.{Question, answer_of, question_of}
use Rattle.nio_history.specs.declared.act.Act.{Act}
use Rattle.nio_history.specs.declared.act.Act.TheVariants.{Enter, TakeTurn}
use Rattle.nio_history.specs.declared.found.Mode.{Mode}
use Rattle.nio_pipe.specs.Calls.{RefusesBy, WaitsBy, TriesRead, TriesWrite, WaitsToRead, WaitsToWrite}
use Rattle.nio_pipe.specs.declared.answers.PipeRead.{PipeRead}
use Rattle.nio_pipe.specs.declared.answers.PipeWrite.{PipeWrite}
use Rattle.nio_poller.proofs.Trying.{begin_gives}
use Rattle.nio_poller.specs.Selecting.{SelectsBy, looked_by, told_until}
use Rattle.nio_poller.specs.Until.{begun_with}
use Rattle.nio_steps.proofs.BeginLaws.{begin-parts}
use Rattle.nio_steps.proofs.PinLaws.{pins_are_given_back}
use Rattle.nio_steps.proofs.Walks.{Always, always_any, always_if, always_run, always_weaker}
use Rattle.nio_steps.proofs.WorksLaws.{leaves-append, none-leaves, one-leaves, touches, works_only_there}
use Rattle.nio_steps.specs.ChannelCalls.{Registers, SetsBlocking, close_channel_plan, is_blocking_plan, is_open_plan}
use Rattle.nio_steps.specs.ChannelCalls.{is_registered_plan, key_for_plan, open_channel_plan, reopen_channel_plan}
use Rattle.nio_steps.specs.ChannelCalls.{try_register_plan, try_set_blocking_plan}
use Rattle.nio_steps.specs.KeyCalls.{attach_plan, attachment_plan, cancel_plan, find_channel_plan, find_plan}
use Rattle.nio_steps.specs.KeyCalls.{find_selector_plan, interest_and_plan, interest_or_plan, interest_plan, is_valid_plan}
use Rattle.nio_steps.specs.KeyCalls.{ready_plan, set_interest_plan, unselect_plan}
use Rattle.nio_steps.specs.Laws.{LeavesSelector, is_selector}
use Rattle.nio_steps.specs.PinLaws.{GivesPinsBack}
use Rattle.nio_steps.specs.PipeCalls.{MakesPipe, pipe_lacks_memory, pipe_plan, try_read_plan, try_write_plan}
use Rattle.nio_steps.specs.Plan.{Plan, reply}
use Rattle.nio_steps.specs.Runs.{Completes}
use Rattle.nio_steps.specs.SelectCalls.{Begins, ClosesRest, ClosesSelector, ListsKeys, ListsSelected, MakesSelection, Poll}
use Rattle.nio_steps.specs.SelectCalls.{SelectReply, Selection, SelectsRest, ShutReply, Tells, already_closed, begin_open}
use Rattle.nio_steps.specs.SelectCalls.{begin_finds_busy, begin_lacks_memory, begin_with_turn, busy, closing, interrupt_plan}
use Rattle.nio_steps.specs.SelectCalls.{interrupted_plan, leave_plan, left, not_begun, open_selector_plan, remove_keys}
use Rattle.nio_steps.specs.SelectCalls.{selected, shut_plan, take_list_plan, try_begin_plan, try_finish_plan, wakeup_plan}
use Rattle.nio_steps.specs.Steps.{gate_in, holder_in}
use Rattle.nio_steps.specs.TableCalls as call
use Rattle.nio_steps.specs.TableCalls.{TableCall, row_of}
use Rattle.nio_steps.specs.Waiting.{Repeats, Retries, Run, Then, Tries, acts_of}
use Rattle.nio_steps.specs.declared.looked.LookedKey.{LookedKey}
use Rattle.nio_steps.specs.declared.refusal.BeginError.{BeginError}
use Rattle.nio_steps.specs.declared.refusal.PipeError.{PipeError}
use Rattle.nio_caller.proofs.Sparing.{FindsFree, Spares, free-later, free-more, spares-append, spares-none}

-- a selection of the caller on any selector goes on after a call of this shape
abbrev pub SparesAll : {R : Type 0} → (List Act → R → Type 0) → Type 0
SparesAll {R} Shape = (t : ℕ) (acts : List Act) (answer : R) → Shape acts answer → Spares t acts

pub record GoesOn {R : Type 0} (Shape : List Act → R → Type 0) : Type 0 where
  pub pins : GivesPinsBack Shape
  pub spares : SparesAll Shape

-- limits for plans that look at none
any : Limits
any = record { callers = 0; selectors = 0; channels = 0; keys = 0 }

-- ---- calls that work on no selector

plain : (l : Limits) (lacks : Bool) (made : TableCall) → ((t : ℕ) → IsFalse (is_selector t (row_of made).works_on))
    → GoesOn (Completes ((row_of made).plan l lacks))
plain l lacks made off = record {
  pins = pins_are_given_back.each l lacks made;
  spares = λ t acts answer run. inl (works_only_there l lacks made acts answer t run (off t));
}

pub find_selector : (l : Limits) (n : ℕ) → GoesOn (Completes (find_selector_plan l n))
find_selector l n = plain l false (call.find_selector n) (λ t. refl)

pub find_channel : (l : Limits) (n serial : ℕ) → GoesOn (Completes (find_channel_plan l n serial))
find_channel l n serial = plain l false (call.find_channel n serial) (λ t. refl)

pub find : (l : Limits) (s : SelNo) (i serial : ℕ) → GoesOn (Completes (find_plan l s i serial))
find l s i serial = plain l false (call.find s i serial) (λ t. refl)

pub is_valid : (k : KeyNo) → GoesOn (Completes (is_valid_plan k))
is_valid k = plain any false (call.is_valid k) (λ t. refl)

pub interest : (k : KeyNo) → GoesOn (Completes (interest_plan k))
interest k = plain any false (call.interest k) (λ t. refl)

pub set_interest : (k : KeyNo) (ops : ℕ) → GoesOn (Completes (set_interest_plan k ops))
set_interest k ops = plain any false (call.set_interest k ops) (λ t. refl)

pub interest_or : (k : KeyNo) (ops : ℕ) → GoesOn (Completes (interest_or_plan k ops))
interest_or k ops = plain any false (call.interest_or k ops) (λ t. refl)

pub interest_and : (k : KeyNo) (ops : ℕ) → GoesOn (Completes (interest_and_plan k ops))
interest_and k ops = plain any false (call.interest_and k ops) (λ t. refl)

pub ready : (k : KeyNo) → GoesOn (Completes (ready_plan k))
ready k = plain any false (call.ready k) (λ t. refl)

pub cancel : (k : KeyNo) → GoesOn (Completes (cancel_plan k))
cancel k = plain any false (call.cancel k) (λ t. refl)

pub unselect : (k : KeyNo) → GoesOn (Completes (unselect_plan k))
unselect k = plain any false (call.unselect k) (λ t. refl)

pub attach : (k : KeyNo) (att : ℕ) → GoesOn (Completes (attach_plan k att))
attach k att = plain any false (call.attach k att) (λ t. refl)

pub attachment : (k : KeyNo) → GoesOn (Completes (attachment_plan k))
attachment k = plain any false (call.attachment k) (λ t. refl)

pub open_channel : (l : Limits) (kind : Kind) → GoesOn (Completes (open_channel_plan l kind))
open_channel l kind = plain l false (call.open_channel kind) (λ t. refl)

pub reopen_channel : (l : Limits) (c : ChanId) → GoesOn (Completes (reopen_channel_plan l c))
reopen_channel l c = plain l false (call.reopen_channel c) (λ t. refl)

pub is_open : (c : ChanId) → GoesOn (Completes (is_open_plan c))
is_open c = plain any false (call.is_open c) (λ t. refl)

pub is_blocking : (c : ChanId) → GoesOn (Completes (is_blocking_plan c))
is_blocking c = plain any false (call.is_blocking c) (λ t. refl)

pub is_registered : (l : Limits) (c : ChanId) → GoesOn (Completes (is_registered_plan l c))
is_registered l c = plain l false (call.is_registered c) (λ t. refl)

pub key_for : (c : ChanId) (s : SelNo) → GoesOn (Completes (key_for_plan c s))
key_for c s = plain any false (call.key_for c s) (λ t. refl)

pub try_set_blocking : (l : Limits) (c : ChanId) (on : Bool) → GoesOn (Completes (try_set_blocking_plan l c on))
try_set_blocking l c on = plain l false (call.try_set_blocking c on) (λ t. refl)

pub try_register : (l : Limits) (s : SelNo) (c : ChanId) (ops att : ℕ) → GoesOn (Completes (try_register_plan l s c ops att))
try_register l s c ops att = plain l false (call.try_register s c ops att) (λ t. refl)

pub close_channel : (l : Limits) (c : ChanId) → GoesOn (Completes (close_channel_plan l c))
close_channel l c = plain l false (call.close_channel c) (λ t. refl)

pub open_selector : (l : Limits) → GoesOn (Completes (open_selector_plan l))
open_selector l = plain l false call.open_selector (λ t. refl)

pub take_list : (s : SelNo) → GoesOn (Completes (take_list_plan s))
take_list s = plain any false (call.take_list s) (λ t. refl)

pub shut : (s : SelNo) → GoesOn (Completes (shut_plan s))
shut s = plain any false (call.shut s) (λ t. refl)

pub wakeup : (s : SelNo) → GoesOn (Completes (wakeup_plan s))
wakeup s = plain any false (call.wakeup s) (λ t. refl)

pub interrupt : (target : CallerNo) → GoesOn (Completes (interrupt_plan target))
interrupt target = plain any false (call.interrupt target) (λ t. refl)

pub interrupted : GoesOn (Completes interrupted_plan)
interrupted = plain any false call.interrupted (λ t. refl)

pub pipe : (l : Limits) (lacks : Bool) → GoesOn (Completes (pipe_plan l lacks))
pipe l lacks = plain l lacks call.pipe (λ t. refl)

pub try_read : (l : Limits) (source : ChanId) → GoesOn (Completes (try_read_plan l source))
try_read l source = plain l false (call.try_read source) (λ t. refl)

pub try_write : (l : Limits) (source sink : ChanId) → GoesOn (Completes (try_write_plan l source sink))
try_write l source sink = plain l false (call.try_write source sink) (λ t. refl)

pub keys : (s : SelNo) → GoesOn (ListsKeys s)
keys s = record {
  pins = λ acts answer shape. pins_are_given_back.keys s _ acts answer shape;
  spares = λ t acts answer run. inl (works_only_there any _ (call.keys s) acts answer t run refl);
}

pub selected_keys : (s : SelNo) → GoesOn (ListsSelected s)
selected_keys s = record {
  pins = λ acts answer shape. pins_are_given_back.selected_keys s _ acts answer shape;
  spares = λ t acts answer run. inl (works_only_there any _ (call.selected_keys s) acts answer t run refl);
}

-- ---- the same call again and again

module _ (P : List Act → Type 0) (none : P []) (append : (xs ys : List Act) → P xs → P ys → P (xs ++ ys)) {X R : Type 0}
    (Shape : X → List Act → R → Type 0) (each : (x : X) (acts : List Act) (answer : R) → Shape x acts answer → P acts) where
  runs_have : (runs : List (Run X R)) → All (λ run. Shape run.given run.acts run.answer) runs → P (acts_of runs)
  runs_have [] made = none
  runs_have (run ∷ later) made =
      let Made = λ (r : Run X R). Shape r.given r.acts r.answer in
      append run.acts (acts_of later) (each run.given run.acts run.answer (All-head Made run later made))
      (runs_have later (All-tail Made run later made))

  tries_have : {goes_on : X → R → Bool} (acts : List Act) → Tries Shape goes_on acts → P acts
  tries_have acts tries = subst P (sym tries.parts) (runs_have tries.runs tries.made)

  repeats_have : {goes_on : X → R → Bool} (acts : List Act) (answer : R) → Repeats Shape goes_on acts answer → P acts
  repeats_have acts answer repeats =
      let last = repeats.last in
      subst P (sym repeats.parts)
      (append repeats.before last.acts (tries_have repeats.before repeats.tries)
      (each last.given last.acts last.answer repeats.made))

module _ {X R : Type 0} {Shape : X → List Act → R → Type 0} {goes_on : X → R → Bool} where
  repeats_spare : (t : ℕ) → ((x : X) (acts : List Act) (answer : R) → Shape x acts answer → Spares t acts)
      → (acts : List Act) (answer : R) → Repeats Shape goes_on acts answer → Spares t acts
  repeats_spare t each acts answer repeats =
      repeats_have (Spares t) (spares-none t) (spares-append t) Shape each acts answer repeats

  repeats_leave : (t : ℕ) → ((x : X) (acts : List Act) (answer : R) → Shape x acts answer → LeavesSelector t acts)
      → (acts : List Act) (answer : R) → Repeats Shape goes_on acts answer → LeavesSelector t acts
  repeats_leave t each acts answer repeats =
      repeats_have (LeavesSelector t) (none-leaves t) (leaves-append t) Shape each acts answer repeats

pub set_blocking : (l : Limits) (c : ChanId) (on : Bool) → GoesOn (SetsBlocking l c on)
set_blocking l c on = record {
  pins = pins_are_given_back.set_blocking l c on;
  spares = λ t. repeats_spare t (λ _ acts answer. (try_set_blocking l c on).spares t acts answer);
}

pub register : (l : Limits) (s : SelNo) (c : ChanId) (ops att : ℕ) → GoesOn (Registers l s c ops att)
register l s c ops att = record {
  pins = pins_are_given_back.register l s c ops att;
  spares = λ t. repeats_spare t (λ _ acts answer. (try_register l s c ops att).spares t acts answer);
}

-- ---- pipes

pub makes_pipe : (l : Limits) → SparesAll (MakesPipe l)
makes_pipe l t acts answer run = (pipe l (pipe_lacks_memory answer)).spares t acts answer run

refuses_by : {A : Type 0} (plan : Plan (Result Bool PipeError)) → SparesAll (Completes plan)
    → SparesAll (RefusesBy {A = A} plan)
refuses_by plan each t acts (Ok answer) run = each t acts (Ok run.0) run.1
refuses_by plan each t acts (Err refusal) run = each t acts (Err refusal) run

waits_by : {A : Type 0} (Had : ℕ → Type 0) (plan : Plan (Result Bool PipeError)) (none : Bool)
    → SparesAll (Completes plan) → SparesAll (WaitsBy {A = A} Had plan none)
waits_by Had plan none each t acts (Ok answer) run =
    repeats_spare t (λ _ xs r. each t xs r) acts run.1.waits.found run.1.waits.runs
waits_by Had plan none each t acts (Err refusal) run =
    repeats_spare t (λ _ xs r. each t xs r) acts run.waits.found run.waits.runs

pub tries_read : (l : Limits) (c : ChanId) → SparesAll (TriesRead l c)
tries_read l c = refuses_by (try_read_plan l c) (try_read l c).spares

pub tries_write : (l : Limits) (c c' : ChanId) → SparesAll (TriesWrite l c c')
tries_write l c c' = refuses_by (try_write_plan l c c') (try_write l c c').spares

pub waits_to_read : (l : Limits) (c : ChanId) (Had : Result PipeRead PipeError → ℕ → Type 0)
    → SparesAll (WaitsToRead l c Had)
waits_to_read l c Had t acts answer run =
    waits_by (Had answer) (try_read_plan l c) _ (try_read l c).spares t acts answer run

pub waits_to_write : (l : Limits) (c c' : ChanId) (Had : Result PipeWrite PipeError → ℕ → Type 0)
    → SparesAll (WaitsToWrite l c c' Had)
waits_to_write l c c' Had t acts answer run =
    waits_by (Had answer) (try_write_plan l c c') _ (try_write l c c').spares t acts answer run

-- ---- calls on the selector of a selection in progress

-- a beginning that answers Ok found nobody
abbrev Began : ℕ → List Act → Result Selection BeginError → Type 0
Began t acts (Ok selection) = FindsFree t acts
Began t acts (Err refusal) = Spares t acts

began_free : (t : ℕ) (acts : List Act) (r : Result Selection BeginError) → FindsFree t acts → Began t acts r
began_free t acts (Ok selection) finds = finds
began_free t acts (Err refusal) finds = inr finds

began_spares : (t : ℕ) (acts : List Act) (r : Result Selection BeginError) → Began t acts r → Spares t acts
began_spares t acts (Ok selection) finds = inr finds
began_spares t acts (Err refusal) spares = spares

two-leave : (t : ℕ) (first second : Act) → touches t (question_of first) ≡ false → touches t (question_of second) ≡ false
    → LeavesSelector t (first ∷ second ∷ [])
two-leave t first second spared spared' =
    leaves-append t (first ∷ []) (second ∷ []) (one-leaves t first spared) (one-leaves t second spared')

begin-finds : (s : SelNo) (mode : Mode) (known : Option (List LookedKey)) (lacks : Bool)
    → Always (Began s.0) (try_begin_plan s mode known lacks)
unfolding try_begin_plan
begin-finds s mode known lacks = λ gate asks_gate.
    always_if (λ acts r. Began s.0 (gate ∷ acts) r)
    (gate_in (answer_of gate)).shut (reply (Err BeginError.ClosedSelector)) (begin_open s mode known lacks)
    (λ _. inl (one-leaves s.0 gate (ap (touches s.0) asks_gate)))
    (λ _ take asks_take. by_take gate (ap (touches s.0) asks_gate) take asks_take)
  where
    by_take : (gate : Act) → touches s.0 (question_of gate) ≡ false → (take : Act)
        → question_of take ≡ Question.take_turn s
        → Always (λ acts r. Began s.0 (gate ∷ take ∷ acts) r)
        (if is_some (holder_in (answer_of take)) then reply (Err BeginError.Busy)
        else begin_with_turn s mode known lacks)
    by_take gate spared (TakeTurn s' (Some n)) asks = inl (two-leave s.0 gate (TakeTurn s' (Some n)) spared refl)
    by_take gate spared (TakeTurn s' None) asks =
        let same : s' ≡ s = cc asks in
        always_weaker (λ _ _. Unit {0}) (λ acts r. Began s.0 (gate ∷ TakeTurn s' None ∷ acts) r)
        (begin_with_turn s mode known lacks)
        (λ acts r _. began_free s.0 (gate ∷ TakeTurn s' None ∷ acts) r
        (record {
          before = gate ∷ [];
          found = TakeTurn s' None;
          rest = acts;
          parts = refl;
          leaves = one-leaves s.0 gate spared;
          free = eq-eqb s'.0 s.0 (ap (λ (x : SelNo). x.0) same);
        }))
        (always_any (begin_with_turn s mode known lacks))
    by_take gate spared _ asks = absurd (cc asks)

begins_so : (s : SelNo) (mode : Mode) (known : Option (List LookedKey)) (acts : List Act)
    (r : Result Selection BeginError) → Begins s mode known acts r → Began s.0 acts r
begins_so s mode known acts r run =
    always_run (Began s.0) (try_begin_plan s mode known (begin_lacks_memory r)) acts r
    (begin-finds s mode known (begin_lacks_memory r)) run

begin_elsewhere : (s : SelNo) (mode : Mode) (known : Option (List LookedKey)) (t : ℕ) → (s.0 == t) ≡ false
    → (acts : List Act) (r : Result Selection BeginError) → Begins s mode known acts r → LeavesSelector t acts
begin_elsewhere s mode known t off acts r run =
    works_only_there any (begin_lacks_memory r) (call.try_begin s mode known) acts r t run off

begin_spares : (s : SelNo) (mode : Mode) (known : Option (List LookedKey)) → SparesAll (Begins s mode known)
begin_spares s mode known t acts r run = by_test (s.0 == t) refl
  where
    by_test : (b : Bool) → (s.0 == t) ≡ b → Spares t acts
    by_test true here =
        subst (λ k. Spares k acts) (eqb-true s.0 t here) (began_spares s.0 acts r (begins_so s mode known acts r run))
    by_test false off = inl (begin_elsewhere s mode known t off acts r run)

pub begin : (s : SelNo) (mode : Mode) (known : Option (List LookedKey)) → GoesOn (Begins s mode known)
begin s mode known = record { pins = begin_gives s mode known; spares = begin_spares s mode known }

pub told_elsewhere : (x : Selection) (poll : Poll) (t : ℕ) → (x.selector.0 == t) ≡ false → (acts : List Act)
    (answer : _) → Tells x poll acts answer → LeavesSelector t acts
told_elsewhere x poll t off acts answer run = works_only_there any false (call.told x poll) acts answer t run off

pub left_elsewhere : (x : Selection) (t : ℕ) → (x.selector.0 == t) ≡ false → (acts : List Act)
    (answer : Unit {0}) → Completes (leave_plan x) acts answer → LeavesSelector t acts
left_elsewhere x t off acts answer run = works_only_there any false (call.leave x) acts answer t run off

finish-finds : (s : SelNo) → Always (λ acts _. Spares s.0 acts) (try_finish_plan s)
unfolding try_finish_plan
finish-finds s = λ act asks. by_act act asks
  where
    by_act : (act : Act) → question_of act ≡ Question.enter s
        → Always (λ acts _. Spares s.0 (act ∷ acts))
        (if is_some (holder_in (answer_of act)) then reply busy else remove_keys s)
    by_act (Enter s' (Some n)) asks = inl (one-leaves s.0 (Enter s' (Some n)) refl)
    by_act (Enter s' None) asks =
        let same : s' ≡ s = cc asks in
        always_weaker (λ _ _. Unit {0}) (λ acts _. Spares s.0 (Enter s' None ∷ acts)) (remove_keys s)
        (λ acts _ _. inr (record {
          before = [];
          found = Enter s' None;
          rest = acts;
          parts = refl;
          leaves = none-leaves s.0;
          free = eq-eqb s'.0 s.0 (ap (λ (x : SelNo). x.0) same);
        })) (always_any (remove_keys s))
    by_act _ asks = absurd (cc asks)

finish_spares : (s : SelNo) → SparesAll (Completes (try_finish_plan s))
finish_spares s t acts answer run = by_test (s.0 == t) refl
  where
    by_test : (b : Bool) → (s.0 == t) ≡ b → Spares t acts
    by_test true here =
        subst (λ k. Spares k acts) (eqb-true s.0 t here)
        (always_run (λ xs _. Spares s.0 xs) (try_finish_plan s) acts answer (finish-finds s) run)
    by_test false off = inl (works_only_there any false (call.try_finish s) acts answer t run off)

pub try_finish : (s : SelNo) → GoesOn (Completes (try_finish_plan s))
try_finish s = record { pins = pins_are_given_back.try_finish s; spares = finish_spares s }

-- ---- one call and then another

then_spare : {A R : Type 0} {First : List Act → A → Type 0} {Second : A → List Act → R → Type 0} → SparesAll First
    → ((a : A) → SparesAll (Second a)) → SparesAll (Then First Second)
then_spare first second t acts answer both =
    subst (Spares t) (sym both.parts)
    (spares-append t both.first both.second (first t both.first both.middle both.runs_first)
    (second both.middle t both.second answer both.runs_second))

closes_rest : (s : SelNo) (r : ShutReply) → SparesAll (ClosesRest s r)
closes_rest s closing t acts answer rest = repeats_spare t (λ _ xs r. finish_spares s t xs r) acts _ rest.1
closes_rest s already_closed t acts answer rest = subst (Spares t) (sym rest.1) (spares-none t)

pub close : (s : SelNo) → GoesOn (ClosesSelector s)
close s = record { pins = pins_are_given_back.close s; spares = then_spare (shut s).spares (closes_rest s) }

-- ---- whole selections

module _ (s : SelNo) (mode : Mode) (known : Option (List LookedKey)) (polls : List Poll) (t : ℕ) where
  -- on another selector
  rest_leaves : (r : Result Selection BeginError) (acts : List Act) (answer : SelectReply)
      → ((x : Selection) → r ≡ Ok x → (x.selector.0 == t) ≡ false) → SelectsRest polls r acts answer
      → LeavesSelector t acts
  rest_leaves (Ok x) acts (selected answer) off rest =
      repeats_leave t (λ poll. told_elsewhere x poll t (off x refl)) acts _ rest.tells
  rest_leaves (Ok x) acts (not_begun refusal) off rest = absurd rest
  rest_leaves (Ok x) acts left off rest =
      subst (LeavesSelector t) (sym rest.parts)
      (leaves-append t rest.told rest.leaves
      (tries_have (LeavesSelector t) (none-leaves t) (leaves-append t) (Tells x)
      (λ poll. told_elsewhere x poll t (off x refl)) rest.told rest.tells)
      (left_elsewhere x t (off x refl) rest.leaves tt rest.left))
  rest_leaves (Err refusal) acts answer off rest = subst (LeavesSelector t) (sym rest.0) (none-leaves t)

  -- on the same one
  rest_there : (r : Result Selection BeginError) (first acts : List Act) (answer : SelectReply) → Began t first r
      → SelectsRest polls r acts answer → Spares t (first ++ acts)
  rest_there (Ok x) first acts answer began rest = inr (free-more t first acts began)
  rest_there (Err refusal) first acts answer began rest =
      spares-append t first acts began (subst (Spares t) (sym rest.0) (spares-none t))

  -- after beginnings that were refused, the last answers for all
  began-later : (before last : List Act) (r : Result Selection BeginError) → Spares t before → Began t last r
      → Began t (before ++ last) r
  began-later before last (Ok x) spares began = free-later t before last spares began
  began-later before last (Err refusal) spares began = spares-append t before last spares began

  select_spares : (acts : List Act) (answer : SelectReply) → MakesSelection s mode known polls acts answer → Spares t acts
  select_spares acts answer makes = by_test (s.0 == t) refl
    where
      by_test : (b : Bool) → (s.0 == t) ≡ b → Spares t acts
      by_test false off =
          inl
          (subst (LeavesSelector t) (sym makes.parts)
          (leaves-append t makes.first makes.second
          (repeats_leave t (λ _. begin_elsewhere s mode known t off) makes.first makes.middle makes.runs_first)
          (rest_leaves makes.middle makes.second answer
          (λ x is. let its = begin-parts s mode known makes.runs_first.last.acts x
          (subst (Begins s mode known makes.runs_first.last.acts) (makes.runs_first.answers ∙ is) makes.runs_first.made) in
          ap (λ (k : SelNo). k.0 == t) its.selector ∙ off)
          makes.runs_second)))
      by_test true here =
          let repeats = makes.runs_first in
          let same : s.0 ≡ t = eqb-true s.0 t here in
          let last : Began t repeats.last.acts repeats.last.answer = subst (λ k. Began k repeats.last.acts repeats.last.answer)
          same (begins_so s mode known repeats.last.acts repeats.last.answer repeats.made) in
          let before : Spares t repeats.before = tries_have (Spares t) (spares-none t) (spares-append t)
          (λ _. Begins s mode known) (λ _. begin_spares s mode known t) repeats.before repeats.tries in
          let first : Began t makes.first makes.middle = subst (λ r. Began t makes.first r) repeats.answers
          (subst (λ xs. Began t xs repeats.last.answer) (sym repeats.parts)
          (began-later repeats.before repeats.last.acts repeats.last.answer before last)) in
          subst (Spares t) (sym makes.parts) (rest_there makes.middle makes.first makes.second answer first makes.runs_second)

-- A selection that is told this, by what its beginning answered: its steps are those of one that is told that answer's.
module _ (s : SelNo) (mode : Mode) (known : Option (List LookedKey)) (told : Result Selection BeginError → List Poll) where
  abbrev Selects : List Act → SelectReply → Type 0
  Selects = Then (Retries (Begins s mode known) begin_finds_busy) (λ begun. SelectsRest (told begun) begun)

  makes_selection : (acts : List Act) (answer : SelectReply) (selects : Selects acts answer)
      → MakesSelection s mode known (told selects.middle) acts answer
  makes_selection acts answer selects = record {
    first = selects.first;
    middle = selects.middle;
    second = selects.second;
    parts = selects.parts;
    runs_first = selects.runs_first;
    runs_second = selects.runs_second;
  }

  select : GoesOn Selects
  select = record {
    pins = λ acts answer selects.
        pins_are_given_back.select s mode known (told selects.middle) acts answer (makes_selection acts answer selects);
    spares = λ t acts answer selects.
        select_spares s mode known (told selects.middle) t acts answer (makes_selection acts answer selects);
  }

pub selects_by : (ends : _) (s : SelNo) (mode : Mode) (known : Option (List LookedKey)) (polls : List Poll)
    → GoesOn (SelectsBy ends s mode known polls)
selects_by ends s mode known polls =
    select s (begun_with ends mode) known (λ begun. told_until ends (looked_by begun) mode polls)
