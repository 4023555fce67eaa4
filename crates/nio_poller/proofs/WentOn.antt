-- After which polls a selection went on that ends once anything was told.
use Rattle.std.proofs.Common.{◌≡◌, ℕ, ◌+◌, ◌-◌, ◌==◌, Bool, true, false, not, ◌&&◌, ◌||◌, IsTrue, Option, Result, Ok, Err}
use Rattle.std.proofs.Common.{List, [], ◌∷◌, ◌++◌, map, length, take, refl, ap, sym, ◌∙◌, subst, arith}
use Rattle.std.specs.Prelude.{⊤, IsFalse}
use Rattle.std.specs.List.{All}
use Rattle.std.proofs.lemmas.List.{length-append, length-map, map-append, take-map, take_at}
use Rattle.std.proofs.lemmas.List.Elements.{All-cons, All-head, All-nil, All-tail}
use Rattle.nio_base.specs.declared.numbers.SelNo.{SelNo}
use Rattle.nio_history.specs.Questions.{answer_of}
use Rattle.nio_history.specs.declared.act.Act.{Act}
use Rattle.nio_history.specs.declared.found.Mode.{Mode}
use Rattle.nio_history.specs.declared.found.Mode.TheVariants.{Now as WithoutWaiting, Wait, For}
use Rattle.nio_select.specs.InHand.{known_by}
use Rattle.nio_steps.proofs.BeginLaws.{begin-parts}
use Rattle.nio_steps.proofs.EachLaws.{split}
use Rattle.nio_steps.proofs.Walks.{Always, always_any, always_bind, always_if, always_run}
use Rattle.nio_steps.specs.Plan.{reply}
use Rattle.nio_steps.specs.SelectCalls.{Begins, Poll, Selection, SelectReply, SelectsRest, Tells, ToldReply, again, done}
use Rattle.nio_steps.specs.SelectCalls.{after_marks, begin_finds_busy, end_selection, goes_on_after, is_again, is_timed}
use Rattle.nio_steps.specs.SelectCalls.{left, mark_entry, may_wait, not_begun, remove_all_cancelled, selected, told_plan}
use Rattle.nio_steps.specs.Steps.{flag_in, gate_in}
use Rattle.nio_steps.specs.Sweeps.{sweep_over}
use Rattle.nio_steps.specs.Waiting.{Retries, Run}
use Rattle.nio_steps.specs.declared.looked.LookedKey.{LookedKey}
use Rattle.nio_steps.specs.declared.refusal.BeginError.{BeginError}
use Rattle.nio_poller.specs.Laws.{GoesOnUntold, went_on_after}
use Rattle.nio_poller.specs.Polled.{Polled}
use Rattle.nio_poller.specs.Selecting.{looked_by, polls_of}
use Rattle.nio_poller.specs.Until.{is_enough, tells_some, told_enough, with_time}

-- ---- a `told` after which the selection goes on

-- where the selection goes on, it may wait, and was not told that its time is over where it has a time
abbrev GoesOn : Mode → Bool → ToldReply → Type 0
GoesOn mode elapsed (done answer) = ⊤
GoesOn mode elapsed (again next) = (may_wait mode && not (is_timed mode && elapsed)) ≡ true

first_and_last : (a b c d e f : Bool) → (a && b && c && d && e && f) ≡ true → (a && f) ≡ true
first_and_last true true true true true f all = all
first_and_last true true true true false f all = absurd (cc all)
first_and_last true true true false e f all = absurd (cc all)
first_and_last true true false d e f all = absurd (cc all)
first_and_last true false c d e f all = absurd (cc all)
first_and_last false b c d e f all = absurd (cc all)

after-goes_on : (selection : Selection) (elapsed : Bool) (n : ℕ)
    → Always (λ _ r. GoesOn selection.mode elapsed r) (after_marks selection elapsed n)
after-goes_on selection elapsed n = λ gate asks_gate status asks_status.
    let P : List Act → ToldReply → Type 0 = λ _ r. GoesOn selection.mode elapsed r in
    always_if P
    (is_again selection.mode n (gate_in (answer_of gate)) (flag_in (answer_of status)) elapsed)
    (reply (again selection)) (end_selection selection _)
    (λ all. first_and_last (may_wait selection.mode) (n == 0) (not (gate_in (answer_of gate)).woken)
    (not (gate_in (answer_of gate)).shut) (not (flag_in (answer_of status))) (not (is_timed selection.mode && elapsed)) all)
    (λ _. always_bind (λ _ _. ⊤) P (remove_all_cancelled selection.selector selection.listed) _
    (always_any (remove_all_cancelled selection.selector selection.listed)) (λ _ _ _ _ _ _ _. tt))

again-goes_on : (selection next : Selection) (poll : Poll) (acts : List Act) → Tells selection poll acts (again next)
    → (may_wait selection.mode && not (is_timed selection.mode && poll.elapsed)) ≡ true
unfolding told_plan
again-goes_on selection next poll acts run =
    let parts = split (sweep_over selection.looked (mark_entry selection.selector poll.pairs) 0)
    (after_marks selection poll.elapsed) acts (again next) run in
    always_run (λ _ r. GoesOn selection.mode poll.elapsed r) (after_marks selection poll.elapsed parts.middle)
    parts.second (again next) (after-goes_on selection poll.elapsed parts.middle) parts.runs_second

-- with a time it goes on only where that isn't over
not_elapsed : (mode : Mode) (elapsed : Bool)
    → (may_wait (with_time mode) && not (is_timed (with_time mode) && elapsed)) ≡ true → elapsed ≡ false
not_elapsed WithoutWaiting elapsed goes_on = absurd (cc goes_on)
not_elapsed Wait true goes_on = absurd (cc goes_on)
not_elapsed Wait false goes_on = refl
not_elapsed (For time) true goes_on = absurd (cc goes_on)
not_elapsed (For time) false goes_on = refl

-- ---- its polls

abbrev IsUntold : Polled → Type 0
IsUntold polled = IsFalse (tells_some polled.asked polled.answer.pairs)

abbrev given_of : Run Poll ToldReply → Poll
given_of run = run.given

neither : (a b : Bool) → (a || b) ≡ false → a ≡ false
neither true b none = absurd (cc none)
neither false b none = refl

module _ (selection : Selection) (mode : Mode) (timed : selection.mode ≡ with_time mode) where
  abbrev Made : Run Poll ToldReply → Type 0
  Made run = Tells selection run.given run.acts run.answer

  abbrev Again : Run Poll ToldReply → Type 0
  Again run = IsTrue (goes_on_after run.given run.answer)

  went_on : (poll : Poll) (acts : List Act) (answer : ToldReply) → Tells selection poll acts answer
      → goes_on_after poll answer ≡ true → poll.elapsed ≡ false
  went_on poll acts (done answer) made on = absurd (cc on)
  went_on poll acts (again next) made on =
      not_elapsed mode poll.elapsed
      (subst (λ (m : Mode). (may_wait m && not (is_timed m && poll.elapsed)) ≡ true) timed
      (again-goes_on selection next poll acts made))

  each : (polls : List Polled) (runs : List (Run Poll ToldReply)) → map told_enough polls ≡ map given_of runs
      → All Made runs → All Again runs → All IsUntold polls
  each [] runs same made on = All-nil IsUntold
  each (polled ∷ polls) [] same made on = absurd (cc same)
  each (polled ∷ polls) (run ∷ runs) same made on =
      let here : told_enough polled ≡ run.given = cc same in
      let later : map told_enough polls ≡ map given_of runs = cc same in
      let elapsed : is_enough polled ≡ false = ap (λ (poll : Poll). poll.elapsed) here
      ∙ went_on run.given run.acts run.answer (All-head Made run runs made) (All-head Again run runs on) in
      All-cons IsUntold polled polls (neither _ _ elapsed)
      (each polls runs later (All-tail Made run runs made) (All-tail Again run runs on))

  -- all but the last, where the selection was over after that
  all_but_last : (polls : List Polled) (runs : List (Run Poll ToldReply)) (last : Run Poll ToldReply)
      → map told_enough polls ≡ map given_of (runs ++ last ∷ []) → All Made runs → All Again runs
      → All IsUntold (take (length polls - 1) polls)
  all_but_last polls runs last same made on =
      let n : ℕ = length polls - 1 in
      let parts : map given_of (runs ++ last ∷ []) ≡ map given_of runs ++ last.given ∷ [] =
      map-append given_of runs (last ∷ []) in
      let count : length polls ≡ length runs + 1 =
      sym (length-map polls told_enough) ∙ ap length same ∙ length-map (runs ++ last ∷ []) given_of
      ∙ length-append runs (last ∷ []) in
      let long : length (map given_of runs) ≡ n = length-map runs given_of ∙ omega (arith, count) in
      each (take n polls) runs
      (sym (take-map told_enough n polls) ∙ ap (take n) (same ∙ parts)
      ∙ take_at (map given_of runs) (last.given ∷ []) n long) made on

-- ---- the law

-- the selection that was begun has this mode
begun-mode : (s : SelNo) (mode : Mode) (known : Option (List LookedKey)) (acts : List Act) (selection : Selection)
    → Retries (Begins s mode known) begin_finds_busy acts (Ok selection) → selection.mode ≡ mode
begun-mode s mode known acts selection repeats =
    (begin-parts s mode known repeats.last.acts selection
    (subst (Begins s mode known repeats.last.acts) repeats.answers repeats.made)).mode_is

module _ (s : SelNo) (mode : Mode) (known : Option (List LookedKey)) (first second : List Act) (polls : List Polled)
  where
    rest_untold : (begun : Result Selection BeginError) (answer : SelectReply)
        → Retries (Begins s (with_time mode) known) begin_finds_busy first begun
        → SelectsRest (map told_enough polls) begun second answer → All IsUntold (went_on_after answer polls)
    rest_untold (Ok selection) (selected answer) begins rest =
        all_but_last selection mode (begun-mode s (with_time mode) known first selection begins) polls
        rest.tells.tries.runs rest.tells.last rest.polls_are rest.tells.tries.made rest.tells.tries.again
    rest_untold (Ok selection) (not_begun refusal) begins rest = absurd rest
    rest_untold (Ok selection) left begins rest =
        each selection mode (begun-mode s (with_time mode) known first selection begins) polls
        rest.tells.runs rest.polls_are rest.tells.made rest.tells.again
    rest_untold (Err refusal) answer begins rest = by_polls polls rest.1
      where
        by_answer : (r : SelectReply) → All IsUntold (went_on_after r [])
        by_answer (selected x) = All-nil IsUntold
        by_answer (not_begun refusal) = All-nil IsUntold
        by_answer left = All-nil IsUntold

        by_polls : (polled : List Polled) → map told_enough polled ≡ [] → All IsUntold (went_on_after answer polled)
        by_polls [] none = by_answer answer
        by_polls (one ∷ later) none = absurd (cc none)

pub goes_on_untold : GoesOnUntold
goes_on_untold me mode selector_old selector_new old new polls_old polls_new ready result clause =
    let run = clause.call.shape in
    rest_untold selector_old.number mode (known_by selector_old) run.first run.second
    (polls_of (looked_by run.middle) mode clause.polls) run.middle clause.reply run.runs_first run.runs_second
