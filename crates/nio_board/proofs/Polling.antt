-- What a poll adds, and what a selection marks that was told its answer.
use Rattle.std.proofs.Common.{◌≡◌, ℕ, ◌⊎◌, inl, inr, Option, Some, Result, Ok, Err, List, [], ◌∷◌, ◌++◌, map}
use Rattle.std.proofs.Common.{refl, ap, sym, ◌∙◌, subst, arith, IsTrue}
use Rattle.std.specs.Prelude.{None}
use Rattle.std.specs.List.{Contains}
use Rattle.std.proofs.lemmas.List.{map-append}
use Rattle.std.proofs.lemmas.List.Elements.{Contains-append_cases, Contains-append_right, Contains-get_or}
use Rattle.nio_base.specs.Ops.{is_within}
use Rattle.nio_base.specs.declared.limits.Limits.{Limits}
use Rattle.nio_base.specs.declared.numbers.ChanNo.{ChanNo}
use Rattle.nio_history.specs.declared.act.Act.{Act}
use Rattle.nio_history.specs.declared.act.Act.TheVariants.{Mark}
use Rattle.nio_history.specs.declared.found.Mode.{Mode}
use Rattle.nio_history.specs.declared.found.Mode.TheVariants.{Wait}
use Rattle.nio_orderly.specs.Made.{Made, table_call}
use Rattle.nio_orderly.specs.Orderly.{AreRuns}
use Rattle.nio_poller.proofs.Marks.{Unmarked, bits_in_channel, marks_ready, unmarked_on}
use Rattle.nio_poller.specs.Polled.{Polled}
use Rattle.nio_poller.specs.Polls.{AddsPoll, told_of_channel}
use Rattle.nio_poller.specs.Selecting.{AddsPolls, MarksAllReady, MarksReady}
use Rattle.nio_poller.specs.declared.poller.PollError.{PollError}
use Rattle.nio_select.specs.Asked.{renumbered_key}
use Rattle.nio_select.specs.InHand.{HeldSelector, known_by}
use Rattle.nio_select.specs.InProgress.{poll_of}
use Rattle.nio_select.specs.declared.told.Told.{Told}
use Rattle.nio_steps.proofs.EachLaws.{each_run}
use Rattle.nio_steps.proofs.Lists.{parted, contains-none}
use Rattle.nio_steps.proofs.SelectionLaws.{NoMark, no_marks}
use Rattle.nio_steps.proofs.ToldLaws.{marks_only_as_told}
use Rattle.nio_steps.proofs.UnmarkedLaws.{begin_unmarked}
use Rattle.nio_steps.specs.Runs.{Completes}
use Rattle.nio_steps.specs.SelectCalls.{Selection, Poll, Tells, ToldReply, leave_plan, told_bits}
use Rattle.nio_steps.specs.TableCalls.{leave}
use Rattle.nio_steps.specs.declared.looked.LookedKey.{LookedKey}
use Rattle.nio_words.specs.Passes.{limits_of}
use Rattle.nio_board.proofs.BoardCalls.{begun_and_left, begun_and_told}
use Rattle.nio_board.specs.Board.{BoardView, ListsTold, selector_of}
use Rattle.nio_board.specs.BoardCalls.{BeginsSelection, HasMade, LeavesSelection, TellsPoll, selection_again, selection_begun}
use Rattle.nio_board.specs.BoardCalls.{selection_over}
use Rattle.nio_board.specs.Called.{board_channel}
use Rattle.nio_board.specs.Polling.{AddsPollFor, FailsToPoll, FailsToSelect, HasPolled, SelectsBy, SelectsOnce, asked_by}
use Rattle.nio_board.specs.Polling.{no_answer, not_polled}
use Rattle.nio_board.specs.declared.deal.Deal.{Deal}

-- ---- what a poll adds

adds_one : (before now : Option (List Polled)) (asked : List LookedKey) (mode : Mode) (given : Told)
    → AddsPoll before now asked mode (Ok given)
    → AddsPolls before now (record { asked = asked; mode = mode; answer = poll_of given } ∷ [])
adds_one None now asked mode given adds = adds
adds_one (Some before) now asked mode given adds = adds

adds_none : (before now : Option (List Polled)) (asked : List LookedKey) (mode : Mode) (error : PollError)
    → AddsPoll before now asked mode (Err error) → now ≡ before
adds_none None now asked mode error adds = adds
adds_none (Some before) now asked mode error adds = adds

module _ {before now : Option (List Polled)} {asked : List LookedKey} {result : Result Told PollError}
    (made : AddsPollFor before now asked result) where
  -- a poll that answered
  pub has_polled : {ready : ChanNo → ℕ} (given : Told) → result ≡ Ok given
      → ((c : ChanNo) → ready c ≡ told_of_channel asked given.pairs.items c)
      → HasPolled asked (poll_of given) before now ready
  has_polled given is ready = record {
    mode = made.mode;
    adds = adds_one before now asked made.mode given (subst (AddsPoll before now asked made.mode) is made.adds);
    told = ready;
  }

  -- one that didn't
  pub has_failed : {ready : ChanNo → ℕ} (error : PollError) → result ≡ Err error
      → FailsToPoll asked before now ready error
  has_failed error is =
      no_answer error (adds_none before now asked made.mode error (subst (AddsPoll before now asked made.mode) is made.adds))

-- ---- the marks of a selection

contains_mapped : {X Y : Type 0} (f : X → Y) (xs : List X) (x : X) → Contains xs x → Contains (map f xs) (f x)
contains_mapped f xs x there =
    let cut = parted xs x there in
    subst (λ ys. Contains ys (f x)) (sym (ap (map f) cut.parts ∙ map-append f cut.past (x ∷ cut.later)))
    (Contains-append_right (map f cut.past) (f x ∷ map f cut.later) (f x)
    (Contains-get_or (f x ∷ map f cut.later) 0 (f x) (omega arith)))

-- a selection marks only what its poll told, also where the poll was asked with other numbers of the channels
marks_renumbered : (f : ChanNo → ChanNo) (ready : ChanNo → ℕ) (selection : Selection) (poll : Poll) (acts : List Act)
    (answer : ToldReply)
    → ((c : ChanNo) → ready c ≡ told_of_channel (map (renumbered_key f) selection.looked) poll.pairs c)
    → Tells selection poll acts answer → MarksAllReady ready (map (renumbered_key f) selection.looked) acts
marks_renumbered f ready selection poll acts answer is run s i bits from there =
    let fits = marks_only_as_told selection poll acts answer run s i bits from (Ok tt) there in
    let keys = map (renumbered_key f) selection.looked in
    let entry = renumbered_key f fits.entry in
    let looked : Contains keys entry = contains_mapped (renumbered_key f) selection.looked fits.entry fits.looked in
    record {
      entry = entry;
      is_looked = looked;
      at_index = fits.at_index;
      bits = subst (λ n. IsTrue (is_within n (ready entry.channel))) (sym fits.bits)
          (subst (λ n. IsTrue (is_within (told_bits poll.pairs entry) n)) (sym (is entry.channel))
          (bits_in_channel keys poll.pairs entry looked));
      some = fits.some;
    }

marks_told : (deal : Option Deal) (ready : ChanNo → ℕ) (selection : Selection) (poll : Poll) (acts : List Act)
    (answer : ToldReply)
    → ((c : ChanNo) → ready c ≡ told_of_channel (asked_by deal selection.looked) poll.pairs c)
    → Tells selection poll acts answer → MarksAllReady ready (asked_by deal selection.looked) acts
marks_told None ready selection poll acts answer is run = marks_ready ready selection poll acts answer is run
marks_told (Some deal) ready selection poll acts answer is run =
    marks_renumbered (board_channel deal) ready selection poll acts answer is run

-- leaving a selection marks no key
leaving_marks_none : (selection : Selection) (acts : List Act) → Completes (leave_plan selection) acts tt
    → Unmarked acts
unfolding leave_plan
leaving_marks_none selection acts run s i bits from there =
    let asks = (each_run (NoMark s.0) (λ _. Unit {0}) (leave_plan selection) acts tt (refl, λ _. tt) run).0 in
    unmarked_on acts s i bits from (no_marks s.0 acts asks) there

module _ (l : Limits) (deal : Option Deal) (s : HeldSelector) (selection : Selection) (poll : Poll)
    (ready : ChanNo → ℕ) (is : (c : ChanNo) → ready c ≡ told_of_channel (asked_by deal selection.looked) poll.pairs c)
  where
    AreReady : List Act → Type 0
    AreReady acts = MarksAllReady ready (asked_by deal selection.looked) acts

    unmarked_ready : (acts : List Act) → Unmarked acts → AreReady acts
    unfolding AreReady
    unmarked_ready acts none s i bits from there = absurd (none s i bits from there)

    ready_append : (xs ys : List Act) → AreReady xs → AreReady ys → AreReady (xs ++ ys)
    unfolding AreReady
    ready_append xs ys first second s i bits from there =
        by_place (Contains-append_cases xs ys (Mark s i from bits (Ok tt)) there)
      where
        by_place : Contains xs (Mark s i from bits (Ok tt)) ⊎ Contains ys (Mark s i from bits (Ok tt))
            → MarksReady ready (asked_by deal selection.looked) i bits
        by_place (inl here) = first s i bits from here
        by_place (inr here) = second s i bits from here

    ready_none : AreReady []
    ready_none = unmarked_ready [] (λ s i bits from there. contains-none _ there)

    left_ready : (next : Selection) (acts : List Act) → AreRuns l (table_call (leave next) tt ∷ []) acts
        → AreReady acts
    left_ready next acts runs =
        subst AreReady (sym runs.parts)
        (ready_append runs.first runs.second
        (unmarked_ready runs.first (leaving_marks_none next runs.first runs.is_first))
        (subst AreReady (sym runs.is_second) ready_none))

    told_ready : (calls : List Made) (acts : List Act) → TellsPoll selection poll calls → AreRuns l calls acts
        → AreReady acts
    unfolding AreReady
    told_ready calls acts (selection_over answer) runs =
        subst AreReady (sym runs.parts)
        (ready_append runs.first runs.second (marks_told deal ready selection poll runs.first _ is runs.is_first)
        (subst AreReady (sym runs.is_second) ready_none))
    told_ready calls acts (selection_again next) runs =
        subst AreReady (sym runs.parts)
        (ready_append runs.first runs.second (marks_told deal ready selection poll runs.first _ is runs.is_first)
        (left_ready next runs.second runs.is_second))

    begun_ready : (first second : List Made) (acts : List Act) → BeginsSelection s selection first
        → TellsPoll selection poll second → AreRuns l (first ++ second) acts → AreReady acts
    begun_ready first second acts selection_begun tells runs =
        subst AreReady (sym runs.parts)
        (ready_append runs.first runs.second
        (unmarked_ready runs.first
        (λ on i bits from there.
        unmarked_on runs.first on i bits from
        (begin_unmarked on.0 s.number Wait (known_by s) runs.first (Ok selection) runs.is_first) there))
        (told_ready second runs.second tells runs.is_second))

    pub selection_ready : (calls : List Made) (acts : List Act) → SelectsBy s selection poll calls → AreRuns l calls acts
        → MarksAllReady ready (asked_by deal selection.looked) acts
    unfolding AreReady
    selection_ready calls acts those runs =
        begun_ready those.first those.second acts those.is_first those.is_second
        (subst (λ (cs : List Made). AreRuns l cs acts) those.parts runs)

-- ---- one selection

module _ {a b c : BoardView} {before now : Option (List Polled)} {ready : ChanNo → ℕ} (selection : Selection)
    (deal : Option Deal) (same : deal ≡ a.deal) (words : b.words ≡ a.words)
    (begun : HasMade a b (BeginsSelection (selector_of a) selection)) where
  pub selects : (answer : Poll) → HasPolled (asked_by deal selection.looked) answer before now ready
      → HasMade b c (TellsPoll selection answer) → {listed : List (ChanNo × ℕ)}
      → ListsTold (asked_by deal selection.looked) answer.pairs listed → SelectsOnce a c before now ready listed
  selects answer polled tells {listed} lists =
      let those = begun_and_told (selector_of a) selection answer words begun tells in
      let its = subst (λ (d : Option Deal). HasPolled (asked_by d selection.looked) answer before now ready) same polled
      in
      record {
        selection = selection;
        answer = answer;
        polled = its;
        calls = those;
        marks = selection_ready (limits_of a.words) a.deal (selector_of a) selection answer ready its.told those.calls
            those.made.acts those.holds those.made.runs;
        lists = subst (λ (d : Option Deal). ListsTold (asked_by d selection.looked) answer.pairs listed) same lists;
      }

  pub fails_to_select : (error : PollError) → FailsToPoll (asked_by deal selection.looked) before now ready error
      → HasMade b c (LeavesSelection selection) → FailsToSelect a c before now ready error
  fails_to_select error failed left =
      not_polled selection error (begun_and_left (selector_of a) selection words begun left)
      (subst (λ (d : Option Deal). FailsToPoll (asked_by d selection.looked) before now ready error) same failed)
