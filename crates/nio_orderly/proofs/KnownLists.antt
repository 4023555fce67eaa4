-- What a caller has as a selector's list is what it knows of its keys.
use Rattle.std.proofs.Common.{◌≡◌, ◌≢◌, ℕ, ◌==◌, Bool, true, false, ◌||◌, if◌then◌else◌, Option, Some, None}
use Rattle.std.proofs.Common.{Result, Ok, Err, cond, is_none, List, [], ◌∷◌, ◌++◌, append_assoc, refl, ap, sym, ◌∙◌, subst}
use Rattle.std.proofs.Common.{eq-eqb}
use Rattle.std.specs.Prelude.{⊤}
use Rattle.std.specs.List.{All}
use Rattle.std.proofs.lemmas.Bool.{or_left, or_right}
use Rattle.std.proofs.lemmas.List.{append-nil}
use Rattle.std.proofs.lemmas.List.Elements.{All-head, All-tail}
use Rattle.std.proofs.lemmas.List.Folds.{list_any-append}
use Rattle.nio_base.specs.declared.limits.Limits.{Limits}
use Rattle.nio_base.specs.declared.numbers.CallerNo.{CallerNo}
use Rattle.nio_base.specs.declared.numbers.SelNo.{SelNo}
use Rattle.nio_history.proofs.Legal.{legal_beginning, legal_next}
use Rattle.nio_history.proofs.OneMore.{mine-append}
use Rattle.nio_history.proofs.OwnChanges.{lists_are_own}
use Rattle.nio_history.proofs.Soundness.{both_ways}
use Rattle.nio_history.specs.Conditions.{is_held_by}
use Rattle.nio_history.specs.Histories.{event_of, mine, state_after, IsLegal}
use Rattle.nio_history.specs.OwnEvents.{has, takes_list}
use Rattle.nio_history.specs.State.{put}
use Rattle.nio_history.specs.Questions.{Question, question_of, answer_of}
use Rattle.nio_history.specs.declared.act.Act.{Act}
use Rattle.nio_history.specs.declared.act.Act.TheVariants.{TakeList}
use Rattle.nio_history.specs.declared.event.Event.{Event}
use Rattle.nio_history.specs.declared.found.Mode.{Mode}
use Rattle.nio_orderly.proofs.WaitedCalls.{calls_without_waiting}
use Rattle.nio_orderly.specs.Lists.{ListsAreKnown, KnowsGiven}
use Rattle.nio_orderly.specs.Made.{Made, draw, table_call, waiting_call, IsRun, MayCome, AreInOrder, after_call, after_calls}
use Rattle.nio_orderly.specs.Orderly.{AreRuns}
use Rattle.nio_orderly.specs.Waited.{waits}
use Rattle.nio_steps.proofs.BeginLaws.{begin-parts}
use Rattle.nio_steps.proofs.KnownAt.{lists_are_empty_at_first, lists_stay}
use Rattle.nio_steps.proofs.ListedBy.{beginnings_list}
use Rattle.nio_steps.proofs.OwnActs.{cut_at}
use Rattle.nio_steps.proofs.SelectionLaws.{none_of-append}
use Rattle.nio_steps.proofs.Unlisted.{refusals_leave_list, other_calls_leave_list, same_selector}
use Rattle.nio_steps.proofs.Walks.{always_run}
use Rattle.nio_steps.specs.ListLaws.{lists_index}
use Rattle.nio_steps.specs.Lists.{IsListOf}
use Rattle.nio_steps.specs.Ongoing.{Ongoing, nothing_ongoing, changed}
use Rattle.nio_steps.specs.Runs.{Completes}
use Rattle.nio_steps.specs.SelectCalls.{Selection, Begins, take_list_plan, done, again, closing, already_closed, closed}
use Rattle.nio_steps.specs.SelectCalls.{busy}
use Rattle.nio_steps.specs.Steps.{holder_in}
use Rattle.nio_steps.specs.TableCalls.{TableCall, row_of, take_list, try_begin, told, shut, try_finish}
use Rattle.nio_steps.specs.declared.looked.LookedKey.{LookedKey}
use Rattle.nio_steps.specs.declared.refusal.BeginError.{BeginError}

-- ---- taking a list

-- a caller takes a list but once
takes_once : (l : Limits) (n : CallerNo) (events : List Event) → IsLegal l events → (own later : List Act) (s : SelNo)
    → mine n events ≡ own ++ TakeList s None ∷ later → has (takes_list s.0) own ≡ false
takes_once l n events legal own later s did =
    let cut = cut_at n events own (TakeList s None) later did in
    let legal' = subst (IsLegal l) cut.parts legal in
    let step = legal_next l cut.past (event_of n (TakeList s None)) cut.later legal' in
    let free : None ≡ (state_after cut.past).lister s.0 = cc step.answers in
    sym (ap (has (takes_list s.0)) cut.mine_past)
    ∙ (sym (lists_are_own l n s cut.past (legal_beginning l cut.past (event_of n (TakeList s None) ∷ cut.later) legal'))
    ∙ ap (is_held_by n) (sym free))

-- what it did where it took it
abbrev TookList : SelNo → List Act → Bool → Type 0
TookList s acts true = acts ≡ TakeList s None ∷ []
TookList s acts false = ⊤

took_list : (s : SelNo) (acts : List Act) (answer : Bool) → Completes (take_list_plan s) acts answer
    → TookList s acts answer
unfolding take_list_plan
took_list s acts answer run = always_run (TookList s) (take_list_plan s) acts answer each run
  where
    each : (act : Act) → question_of act ≡ Question.take_list s
        → TookList s (act ∷ []) (is_none (holder_in (answer_of act)))
    each (TakeList t None) asks = cc asks
    each (TakeList t (Some x)) asks = tt
    each _ asks = absurd (cc asks)

-- ---- what a caller has as a list

-- what the caller did so far says of what it has as the list of a selector: where it has none, it did no such act there
abbrev IsKnown : SelNo → List Act → Option (List LookedKey) → Type 0
IsKnown s own None = (i : ℕ) → has (lists_index s.0 i) own ≡ false
IsKnown s own (Some known) = (has (takes_list s.0) own ≡ true) × IsListOf own s known

had-on : (s : SelNo) (own acts : List Act) → has (takes_list s.0) own ≡ true → has (takes_list s.0) (own ++ acts) ≡ true
had-on s own acts had = list_any-append (takes_list s.0) own acts ∙ or_left _ _ had

known-on : (s : SelNo) (own acts : List Act) (list : Option (List LookedKey))
    → ((i : ℕ) → has (lists_index s.0 i) acts ≡ false) → IsKnown s own list → IsKnown s (own ++ acts) list
known-on s own acts None none was = λ i. none_of-append (lists_index s.0 i) own acts (was i) (none i)
known-on s own acts (Some known) none was = (had-on s own acts was.0, lists_stay s known own acts was.1 none)

unlisted_yet : (s : SelNo) (own : List Act) (list : Option (List LookedKey)) → IsKnown s own list
    → has (takes_list s.0) own ≡ false → (i : ℕ) → has (lists_index s.0 i) own ≡ false
unlisted_yet s own None was none = was
unlisted_yet s own (Some known) was none = absurd (both_ways (has (takes_list s.0) own) was.0 none)

-- what a caller knows it knows after acts that leave the list
pub given_on : (l : Limits) (n : CallerNo) (before past : List Event) (s : SelNo) (known : Option (List LookedKey))
    → IsLegal l (before ++ past) → ((i : ℕ) → has (lists_index s.0 i) (mine n past) ≡ false)
    → KnowsGiven l n before s known → KnowsGiven l n (before ++ past) s known
given_on l n before past s None legal none knows = tt
given_on l n before past s (Some known) legal none knows =
    let own = mine-append n before past in
    record {
      fit = knows.fit;
      had = lists_are_own l n s (before ++ past) legal
          ∙ (ap (has (takes_list s.0)) own
          ∙ had-on s (mine n before) (mine n past)
          (sym (lists_are_own l n s before (legal_beginning l before past legal)) ∙ knows.had));
      right = subst (λ acts. IsListOf acts s known) (sym own)
          (lists_stay s known (mine n before) (mine n past) knows.right none);
    }

-- ---- a call

abbrev may_list : TableCall → Bool
may_list (take_list s) = true
may_list (try_begin s mode known) = true
may_list _ = false

lists_kept : (call : TableCall) (answer : (row_of call).Reply) (now : Ongoing) → may_list call ≡ false
    → (changed now ((row_of call).change answer)).list ≡ now.list
lists_kept (take_list s) answer now is = absurd (cc is)
lists_kept (try_begin s mode known) answer now is = absurd (cc is)
lists_kept (told selection poll) (done answer) now is = refl
lists_kept (told selection poll) (again next) now is = refl
lists_kept (shut s) closing now is = refl
lists_kept (shut s) already_closed now is = refl
lists_kept (try_finish s) closed now is = refl
lists_kept (try_finish s) busy now is = refl
lists_kept call answer now is = refl

begins_none : (call : TableCall) → may_list call ≡ false → (s : SelNo) (mode : Mode) (known : List LookedKey)
    → call ≢ try_begin s mode (Some known)
begins_none call is s mode known same = absurd (cc (sym is ∙ ap may_list same))

module _ (l : Limits) (s : SelNo) (own acts : List Act) (now : Ongoing) (was : IsKnown s own (now.list s.0)) where
  abbrev IsKnownThen : Ongoing → Type 0
  IsKnownThen later = IsKnown s (own ++ acts) (later.list s.0)

  other_call : (call : TableCall) (answer : (row_of call).Reply) → may_list call ≡ false
      → Completes ((row_of call).plan l ((row_of call).lacks_memory answer)) acts answer
      → IsKnownThen (changed now ((row_of call).change answer))
  other_call call answer is run =
      subst (λ (list : ℕ → Option (List LookedKey)). IsKnown s (own ++ acts) (list s.0))
      (sym (lists_kept call answer now is))
      (known-on s own acts (now.list s.0)
      (λ i. other_calls_leave_list l ((row_of call).lacks_memory answer) call acts answer s i (begins_none call is s) run)
      was)

  taking : (t : SelNo) (answer : Bool) → Completes (take_list_plan t) acts answer
      → (acts ≡ TakeList t None ∷ [] → has (takes_list t.0) own ≡ false)
      → IsKnownThen (changed now ((row_of (take_list t)).change answer))
  taking t false run once =
      known-on s own acts (now.list s.0)
      (λ i. other_calls_leave_list l false (take_list t) acts false s i (λ mode known same. absurd (cc same)) run) was
  taking t true run once = by_selector (s.0 == t.0) refl
    where
      took : acts ≡ TakeList t None ∷ []
      took = took_list t acts true run

      none : (i : ℕ) → has (lists_index s.0 i) acts ≡ false
      none = λ i. other_calls_leave_list l false (take_list t) acts true s i (λ mode known same. absurd (cc same)) run

      by_selector : (b : Bool) → (s.0 == t.0) ≡ b → IsKnown s (own ++ acts) (cond b (Some []) (now.list s.0))
      by_selector false other = known-on s own acts (now.list s.0) none was
      by_selector true same =
          let is : s ≡ t = same_selector s t same in
          let yet = unlisted_yet s own (now.list s.0) was
          (subst (λ (k : SelNo). has (takes_list k.0) own ≡ false) (sym is) (once took)) in
          let taken : has (takes_list s.0) acts ≡ true
          = ap (has (takes_list s.0)) took
          ∙ ap (λ (k : SelNo). (k.0 == s.0) || false) (sym is) ∙ ap (λ b. b || false) (eq-eqb s.0 s.0 refl) in (
            list_any-append (takes_list s.0) own acts ∙ or_right _ _ taken,
            lists_are_empty_at_first s (own ++ acts)
                (λ i. none_of-append (lists_index s.0 i) own acts (yet i) (none i)),
          )

  unlisted_beginning : (t : SelNo) (mode : Mode) (answer : Result Selection BeginError) → Begins t mode None acts answer
      → IsKnownThen (changed now ((row_of (try_begin t mode None)).change answer))
  unlisted_beginning t mode (Err refusal) run =
      known-on s own acts (now.list s.0)
      (λ i. other_calls_leave_list l ((row_of (try_begin t mode None)).lacks_memory (Err refusal)) (try_begin t mode None)
      acts (Err refusal) s i (λ mode' known same. absurd (cc same)) run) was
  unlisted_beginning t mode (Ok selection) run =
      subst (λ b. IsKnown s (own ++ acts)
      ((if b then put now.list t.0 (Some selection.looked) else now.list) s.0))
      (sym (begin-parts t mode None acts selection run).listed)
      (known-on s own acts (now.list s.0)
      (λ i. other_calls_leave_list l false (try_begin t mode None) acts (Ok selection) s i
      (λ mode' known same. absurd (cc same)) run)
      was)

  listed_beginning : (t : SelNo) (mode : Mode) (known : List LookedKey) (answer : Result Selection BeginError)
      → now.list t.0 ≡ Some known → Begins t mode (Some known) acts answer
      → IsKnownThen (changed now ((row_of (try_begin t mode (Some known))).change answer))
  listed_beginning t mode known answer may run = by_selector (s.0 == t.0) refl answer run
    where
      elsewhere : (s.0 == t.0) ≡ false → (mode' : Mode) (known' : List LookedKey)
          → try_begin t mode (Some known) ≢ try_begin s mode' (Some known')
      elsewhere other mode' known' same =
          let is : t ≡ s = cc same in
          absurd (cc (sym other ∙ eq-eqb s.0 t.0 (ap (λ (k : SelNo). k.0) (sym is))))

      by_selector : (b : Bool) → (s.0 == t.0) ≡ b → (answer' : Result Selection BeginError)
          → Begins t mode (Some known) acts answer'
          → IsKnownThen (changed now ((row_of (try_begin t mode (Some known))).change answer'))
      by_selector false other (Err refusal) run' =
          known-on s own acts (now.list s.0)
          (λ i. other_calls_leave_list l ((row_of (try_begin t mode (Some known))).lacks_memory (Err refusal))
          (try_begin t mode (Some known)) acts (Err refusal) s i (elsewhere other) run') was
      by_selector false other (Ok selection) run' =
          subst (λ b. IsKnown s (own ++ acts)
          ((if b then put now.list t.0 (Some selection.looked) else now.list) s.0))
          (sym (begin-parts t mode (Some known) acts selection run').listed)
          (subst (λ b. IsKnown s (own ++ acts) (cond b (Some selection.looked) (now.list s.0))) (sym other)
          (known-on s own acts (now.list s.0)
          (λ i. other_calls_leave_list l false (try_begin t mode (Some known)) acts (Ok selection) s i (elsewhere other)
          run') was))
      by_selector true same (Err refusal) run' =
          known-on s own acts (now.list s.0)
          (λ i. subst (λ (k : SelNo). has (lists_index k.0 i) acts ≡ false) (sym (same_selector s t same))
          (refusals_leave_list t mode (Some known) acts refusal run' i)) was
      by_selector true same (Ok selection) run' =
          let is : s ≡ t = same_selector s t same in
          let here : IsKnown s own (Some known) = subst (IsKnown s own)
          (ap (λ (k : SelNo). now.list k.0) is ∙ may) was in
          subst (λ b. IsKnown s (own ++ acts)
          ((if b then put now.list t.0 (Some selection.looked) else now.list) s.0))
          (sym (begin-parts t mode (Some known) acts selection run').listed)
          (subst (λ b. IsKnown s (own ++ acts) (cond b (Some selection.looked) (now.list s.0))) (sym same) (
            had-on s own acts here.0,
            beginnings_list s mode known own acts selection here.1
                (subst (λ k. Begins k mode (Some known) acts (Ok selection)) (sym is) run'),
          ))

  one_call : (call : TableCall) (answer : (row_of call).Reply)
      → Completes ((row_of call).plan l ((row_of call).lacks_memory answer)) acts answer → (row_of call).may_come now
      → ((t : SelNo) → acts ≡ TakeList t None ∷ [] → has (takes_list t.0) own ≡ false)
      → IsKnownThen (changed now ((row_of call).change answer))
  one_call (take_list t) answer run may once = taking t answer run (once t)
  one_call (try_begin t mode None) answer run may once = unlisted_beginning t mode answer run
  one_call (try_begin t mode (Some known)) answer run may once = listed_beginning t mode known answer may run
  one_call call answer run may once = other_call call answer refl run

  one_made : (call : Made) → waits call ≡ false → IsRun l call acts → MayCome now call
      → ((t : SelNo) → acts ≡ TakeList t None ∷ [] → has (takes_list t.0) own ≡ false)
      → IsKnownThen (after_call now call)
  one_made (draw n) unwaiting run may once =
      known-on s own acts (now.list s.0) (λ i. ap (has (lists_index s.0 i)) run) was
  one_made (table_call call answer) unwaiting run may once = one_call call answer run may once
  one_made (waiting_call call answer) unwaiting run may once = absurd (cc unwaiting)

-- ---- all calls

module _ (l : Limits) (n : CallerNo) (events : List Event) (legal : IsLegal l events) (s : SelNo) where
  known_after : (calls : List Made) (own acts : List Act) (now : Ongoing) → mine n events ≡ own ++ acts
      → All (λ call. waits call ≡ false) calls → AreRuns l calls acts → AreInOrder now calls
      → IsKnown s own (now.list s.0) → IsKnown s (own ++ acts) ((after_calls now calls).list s.0)
  known_after [] own acts now did unwaiting runs order was =
      subst (λ xs. IsKnown s xs (now.list s.0)) (sym (ap (λ xs. own ++ xs) runs ∙ append-nil own)) was
  known_after (call ∷ calls) own acts now did unwaiting runs order was =
      subst (λ xs. IsKnown s xs ((after_calls (after_call now call) calls).list s.0))
      (append_assoc own runs.first runs.second ∙ ap (λ xs. own ++ xs) (sym runs.parts))
      (known_after calls (own ++ runs.first) runs.second (after_call now call)
      (did ∙ (ap (λ xs. own ++ xs) runs.parts ∙ sym (append_assoc own runs.first runs.second)))
      (All-tail (λ call'. waits call' ≡ false) call calls unwaiting) runs.is_second order.1
      (one_made l s own runs.first now was call (All-head (λ call'. waits call' ≡ false) call calls unwaiting)
      runs.is_first order.0
      (λ t took. takes_once l n events legal own runs.second t
      (did ∙ ap (λ xs. own ++ xs) (runs.parts ∙ ap (λ xs. xs ++ runs.second) took)))))

pub lists_are_known : ListsAreKnown
lists_are_known l n events calls s known fit legal are has_it =
    let made = calls_without_waiting l (mine n events) calls are in
    let at_end : IsKnown s (mine n events) (Some known)
    = subst (IsKnown s (mine n events)) (ap (λ (x : Ongoing). x.list s.0) made.leaves ∙ has_it)
    (known_after l n events legal s made.calls [] (mine n events) nothing_ongoing refl made.unwaiting made.runs
    made.in_order (λ i. refl)) in
    record { fit = fit; had = lists_are_own l n s events legal ∙ at_end.0; right = at_end.1 }
