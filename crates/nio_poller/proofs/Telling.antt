-- What a selection was told so far.
use Rattle.std.proofs.Common.{◌≡◌, ℕ, Bool, true, false, ◌⊎◌, inl, inr, Option, Some, None, Result, Ok, Err, List, []}
use Rattle.std.proofs.Common.{◌∷◌, ◌++◌, map, refl, ap, sym, ◌∙◌, subst, append_assoc}
use Rattle.std.specs.List.{Contains}
use Rattle.std.proofs.lemmas.List.{append-nil, map-append}
use Rattle.std.proofs.lemmas.List.Elements.{Contains-append_cases}
use Rattle.nio_base.specs.declared.numbers.CallerNo.{CallerNo}
use Rattle.nio_base.specs.declared.numbers.ChanNo.{ChanNo}
use Rattle.nio_base.specs.declared.numbers.SelNo.{SelNo}
use Rattle.nio_history.proofs.PassViews.{acts_nothing}
use Rattle.nio_history.specs.Histories.{IsLegal}
use Rattle.nio_history.specs.PassViews.{PassView}
use Rattle.nio_history.specs.declared.act.Act.{Act}
use Rattle.nio_history.specs.declared.act.Act.TheVariants.{Mark}
use Rattle.nio_history.specs.declared.found.Mark.{Mark as KeyMark}
use Rattle.nio_history.specs.declared.found.Mode.{Mode}
use Rattle.nio_history.specs.declared.found.Mode.TheVariants.{Now as WithoutWaiting}
use Rattle.nio_select.specs.InHand.{InHand, HeldList, selection_of}
use Rattle.nio_select.specs.InProgress.{IfAgain, poll_of}
use Rattle.nio_select.specs.declared.selecting.After.{After}
use Rattle.nio_select.specs.declared.selecting.After.TheVariants as after
use Rattle.nio_select.specs.declared.told.Told.{Told}
use Rattle.nio_steps.proofs.CallLaws.{call_of_acts, calls_then}
use Rattle.nio_steps.proofs.EachLaws.{each_run}
use Rattle.nio_steps.proofs.SelectionLaws.{NoMark, no_marks}
use Rattle.nio_steps.proofs.WaitingLaws.{tries_none, tries_more, repeats_last}
use Rattle.nio_steps.specs.Calls.{CallClause}
use Rattle.nio_steps.specs.Runs.{Completes}
use Rattle.nio_steps.specs.SelectCalls.{Selection, Poll, Tells, TellsAll, TellsAndLeaves, goes_on_after, ToldReply}
use Rattle.nio_steps.specs.SelectCalls.{done, again, leave_plan, SelectsRest, SelectReply, selected, left}
use Rattle.nio_steps.specs.Waiting.{Run, Tries}
use Rattle.nio_steps.specs.declared.looked.LookedKey.{LookedKey}
use Rattle.nio_steps.specs.declared.selected.Selected.{Selected}
use Rattle.nio_poller.specs.Polled.{Polled}
use Rattle.nio_poller.specs.Polls.{AddsPoll, told_of_channel}
use Rattle.nio_poller.proofs.Marks.{Unmarked, unmarked_none, unmarked_append, unmarked_on, again-unmarked, marks_ready}
use Rattle.nio_poller.specs.Selecting.{AddsPolls, MarksReady, MarksAllReady, polls_of, told_from, told_until}
use Rattle.nio_poller.specs.Telling.{TellsOne, LeavesIt, PollsClause, failed_with}
use Rattle.nio_poller.specs.Until.{one_poll, told_enough, told_one}
use Rattle.nio_poller.specs.declared.poller.PollError.{PollError}
use Rattle.nio_poller.specs.declared.poller.PollError.TheVariants as poll_error
use Rattle.nio_poller.specs.declared.selecting.SelectError.{SelectError}
use Rattle.nio_poller.specs.declared.selecting.SelectError.TheVariants.{PollFault, Memory}
use Rattle.nio_poller.specs.declared.until.Until.{Until}
use Rattle.nio_poller.specs.declared.until.Until.TheVariants as until
use Rattle.nio_poller.specs.declared.until.Waiting.{Waiting}

-- ---- the polls that a poller tells

pub adds_none : (polls : Option (List Polled)) → AddsPolls polls polls []
adds_none None = refl
adds_none (Some before) = ap Some (sym (append-nil before))

-- what a poll that answered adds, where it was asked for these keys and might wait so long
pub adds_one : (p0 p1 : Option (List Polled)) (asked looked : List LookedKey) (found mode : Mode) (told : Told)
    → asked ≡ looked → found ≡ mode → AddsPoll p0 p1 asked found (Ok told)
    → AddsPolls p0 p1 (record { asked = looked; mode = mode; answer = poll_of told } ∷ [])
adds_one None p1 asked looked found mode told same waits added = added
adds_one (Some before) p1 asked looked found mode told same waits added =
    subst
    (λ (m : Mode). AddsPolls (Some before) p1 (record { asked = looked; mode = m; answer = poll_of told } ∷ [])) waits
    (subst
    (λ (keys : List LookedKey).
    AddsPolls (Some before) p1 (record { asked = keys; mode = found; answer = poll_of told } ∷ [])) same added)

adds_more : (p0 p1 p2 : Option (List Polled)) (xs ys : List Polled)
    → AddsPolls p0 p1 xs → AddsPolls p1 p2 ys → AddsPolls p0 p2 (xs ++ ys)
adds_more None p1 p2 xs ys first second = subst (λ p. AddsPolls p p2 ys) first second
adds_more (Some before) p1 p2 xs ys first second =
    subst (λ p. AddsPolls p p2 ys) first second ∙ ap Some (append_assoc before xs ys)

-- whether no poll answered yet
abbrev pub is_first_after : List Poll → Bool
is_first_after [] = true
is_first_after (poll ∷ later) = false

pub first_once : (polls : List Poll) (poll : Poll) → false ≡ is_first_after (polls ++ poll ∷ [])
first_once [] poll = refl
first_once (x ∷ later) poll = refl

-- the poll after these
abbrev next_poll : List LookedKey → Mode → List Poll → Poll → Polled
next_poll asked mode polls poll = one_poll asked mode (is_first_after polls) poll

polls_of-more : (asked : List LookedKey) (mode : Mode) (polls : List Poll) (poll : Poll)
    → polls_of asked mode polls ++ next_poll asked mode polls poll ∷ [] ≡ polls_of asked mode (polls ++ poll ∷ [])
polls_of-more asked mode [] poll = refl
polls_of-more asked mode (first ∷ later) poll =
    ap (λ xs. record { asked = asked; mode = WithoutWaiting; answer = first } ∷ xs)
    (sym (map-append (λ (answer : Poll). record { asked = asked; mode = mode; answer = answer }) later (poll ∷ [])))

-- the next poll is added to those so far
adds_next : (p0 p1 p2 : Option (List Polled)) (asked : List LookedKey) (mode : Mode) (polls : List Poll) (poll : Poll)
    → AddsPolls p0 p1 (polls_of asked mode polls)
    → AddsPolls p1 p2 (next_poll asked mode polls poll ∷ [])
    → AddsPolls p0 p2 (polls_of asked mode (polls ++ poll ∷ []))
adds_next p0 p1 p2 asked mode polls poll before added =
    subst (AddsPolls p0 p2) (polls_of-more asked mode polls poll)
    (adds_more p0 p1 p2 (polls_of asked mode polls) _ before added)

-- ---- what the selection is told of them

told_from-more : (asked : List LookedKey) (mode : Mode) (polls : List Poll) (poll : Poll)
    → told_from polls ++ told_one until.Updated (is_first_after polls) (next_poll asked mode polls poll) ∷ []
    ≡ told_from (polls ++ poll ∷ [])
told_from-more asked mode [] poll = refl
told_from-more asked mode (first ∷ later) poll = refl

pub told_until-none : (ends : Until) (asked : List LookedKey) (mode : Mode) → [] ≡ told_until ends asked mode []
told_until-none until.Updated asked mode = refl
told_until-none until.Told asked mode = refl

told_until-more : (ends : Until) (asked : List LookedKey) (mode : Mode) (polls : List Poll) (poll : Poll)
    → told_until ends asked mode polls ++ told_one ends (is_first_after polls) (next_poll asked mode polls poll) ∷ []
    ≡ told_until ends asked mode (polls ++ poll ∷ [])
told_until-more until.Updated asked mode polls poll = told_from-more asked mode polls poll
told_until-more until.Told asked mode polls poll =
    sym (map-append told_enough (polls_of asked mode polls) (next_poll asked mode polls poll ∷ []))
    ∙ ap (map told_enough) (polls_of-more asked mode polls poll)

-- ---- the runs so far

-- the selection was told the answers of these polls, none of which ended it, and no mark succeeded
pub record TellsSoFar (selection : Selection) (polls : List Poll) (acts : List Act) : Type 0 where
  pub tells : Tries (Tells selection) goes_on_after acts
  pub polls_are : polls ≡ map (λ run. run.given) tells.runs
  pub unmarked : Unmarked acts

tells_none : (selection : Selection) → TellsSoFar selection [] []
unfolding tries_none
tells_none selection =
    record { tells = tries_none (Tells selection) goes_on_after; polls_are = refl; unmarked = unmarked_none }

given-more : (runs : List (Run Poll ToldReply)) (run : Run Poll ToldReply) (polls : List Poll)
    → polls ≡ map (λ (r : Run Poll ToldReply). r.given) runs
    → polls ++ run.given ∷ [] ≡ map (λ (r : Run Poll ToldReply). r.given) (runs ++ run ∷ [])
given-more runs run polls are =
    ap (λ xs. xs ++ run.given ∷ []) are ∙ sym (map-append (λ (r : Run Poll ToldReply). r.given) runs (run ∷ []))

tells_more : (selection : Selection) (polls : List Poll) (poll : Poll) (next : Selection) (xs ys : List Act)
    → TellsSoFar selection polls xs → Tells selection poll ys (again next)
    → TellsSoFar selection (polls ++ poll ∷ []) (xs ++ ys)
unfolding tries_more
tells_more selection polls poll next xs ys so_far run = record {
  tells = tries_more poll ys (again next) so_far.tells run refl;
  polls_are = given-more so_far.tells.runs (record { given = poll; acts = ys; answer = again next }) polls
      so_far.polls_are;
  unmarked = unmarked_append xs ys so_far.unmarked (again-unmarked selection next poll ys run);
}

tells_last : (selection : Selection) (polls : List Poll) (poll : Poll) (answer : Selected) (xs ys : List Act)
    → TellsSoFar selection polls xs → Tells selection poll ys (done answer)
    → TellsAll selection (polls ++ poll ∷ []) (xs ++ ys) answer
unfolding repeats_last
tells_last selection polls poll answer xs ys so_far run = record {
  tells = repeats_last poll ys (done answer) so_far.tells run refl;
  polls_are = given-more so_far.tells.runs (record { given = poll; acts = ys; answer = done answer }) polls
      so_far.polls_are;
}

tells_and_leaves : (selection : Selection) (polls : List Poll) (xs ys : List Act) → TellsSoFar selection polls xs
    → Completes (leave_plan selection) ys tt
    → TellsAndLeaves selection polls (xs ++ ys)
tells_and_leaves selection polls xs ys so_far run =
    record { told = xs; leaves = ys; parts = refl; tells = so_far.tells; polls_are = so_far.polls_are; left = run }

-- leaving a selection marks no key
leave-unmarked : (selection : Selection) (acts : List Act) → Completes (leave_plan selection) acts tt → Unmarked acts
unfolding leave_plan
leave-unmarked selection acts run s i told from there =
    let asks = (each_run (NoMark s.0) (λ _. Unit {0}) (leave_plan selection) acts tt (refl, λ _. tt) run).0 in
    unmarked_on acts s i told from (no_marks s.0 acts asks) there

-- ---- the call so far

-- what the selection is told of these answers
abbrev told_of : Selection → Waiting → List Poll → List Poll
told_of selection waiting polls = told_until waiting.until selection.looked waiting.mode polls

-- and of the one after them
abbrev told_next : Selection → Waiting → List Poll → Poll → Poll
told_next selection waiting polls poll =
    told_one waiting.until (is_first_after polls) (next_poll selection.looked waiting.mode polls poll)

told_of-more : (selection : Selection) (waiting : Waiting) (polls : List Poll) (poll : Poll)
    → told_of selection waiting polls ++ told_next selection waiting polls poll ∷ []
    ≡ told_of selection waiting (polls ++ poll ∷ [])
told_of-more selection waiting polls poll = told_until-more waiting.until selection.looked waiting.mode polls poll

pub record SoFar (me : CallerNo) (selection : Selection) (waiting : Waiting) (is_first : Bool) (v0 v1 : PassView)
    (p0 p1 : Option (List Polled)) : Type 0 where
  pub polls : List Poll
  pub first_is : is_first ≡ is_first_after polls
  pub call : CallClause me
      (λ acts (_ : Unit {0}). TellsSoFar selection (told_of selection waiting polls) acts) v0 v1 tt
  pub adds : AddsPolls p0 p1 (polls_of selection.looked waiting.mode polls)

pub so_far_none : (me : CallerNo) (selection : Selection) (waiting : Waiting) (v : PassView) (p : Option (List Polled))
    → IsLegal v.limits v.seen → SoFar me selection waiting true v v p p
so_far_none me selection waiting v p legal = record {
  polls = [];
  first_is = refl;
  call = call_of_acts
      (λ acts (_ : Unit {0}). TellsSoFar selection (told_of selection waiting []) acts) [] tt (acts_nothing me v legal)
      (subst (λ (polls : List Poll). TellsSoFar selection polls [])
      (told_until-none waiting.until selection.looked waiting.mode) (tells_none selection));
  adds = adds_none p;
}

module _ {me : CallerNo} {selection : Selection} {waiting : Waiting} {is_first : Bool} {v0 v1 v2 : PassView}
    {p0 p1 p2 : Option (List Polled)} {ready : ChanNo → ℕ}
    (so_far : SoFar me selection waiting is_first v0 v1 p0 p1) where
  -- the poll is the next after those
  next_one : (a : After) → TellsOne me selection waiting is_first v1 v2 p1 p2 ready a
      → TellsOne me selection waiting (is_first_after so_far.polls) v1 v2 p1 p2 ready a
  next_one a one = subst (λ (first : Bool). TellsOne me selection waiting first v1 v2 p1 p2 ready a) so_far.first_is one

  pub goes_on : (next : InHand) → TellsOne me selection waiting is_first v1 v2 p1 p2 ready (after.Again next)
      → SoFar me selection waiting false v0 v2 p0 p2
  goes_on next found =
      let one = next_one (after.Again next) found in
      record {
        polls = so_far.polls ++ one.poll ∷ [];
        first_is = first_once so_far.polls one.poll;
        call = calls_then
            (λ acts (_ : Unit {0}). TellsSoFar selection (told_of selection waiting (so_far.polls ++ one.poll ∷ [])) acts)
            tt
            (λ xs ys here run.
            subst (λ (polls : List Poll). TellsSoFar selection polls (xs ++ ys))
            (told_of-more selection waiting so_far.polls one.poll)
            (tells_more selection (told_of selection waiting so_far.polls)
            (told_next selection waiting so_far.polls one.poll) (selection_of next) xs ys here run))
            so_far.call one.call;
        adds = adds_next p0 p1 p2 selection.looked waiting.mode so_far.polls one.poll so_far.adds one.adds;
      }

  pub is_over : (answer : Selected) (list : Option HeldList)
      → TellsOne me selection waiting is_first v1 v2 p1 p2 ready (after.Done answer list)
      → PollsClause me selection waiting v0 v2 p0 p2 ready (Ok answer)
  is_over answer list found =
      let one = next_one (after.Done answer list) found in
      let polls = so_far.polls ++ one.poll ∷ [] in
      let told = told_next selection waiting so_far.polls one.poll in
      let both : CallClause me (λ acts (r : SelectReply).
      SelectsRest (told_of selection waiting polls) (Ok selection) acts r × MarksAllReady ready selection.looked acts) v0 v2
      (selected answer) =
      calls_then _ (selected answer)
      (λ xs ys here run. (
        subst (λ (ps : List Poll). TellsAll selection ps (xs ++ ys) answer)
            (told_of-more selection waiting so_far.polls one.poll)
            (tells_last selection (told_of selection waiting so_far.polls) told answer xs ys here run),
        λ s i bits from there.
            by_place told one.ready_is xs ys here run s i bits from
            (Contains-append_cases xs ys (Mark s i from bits (Ok tt)) there),
      )) so_far.call one.call in
      record {
        polls = polls;
        reply = selected answer;
        call = record { acts = both.acts; shape = both.shape.0 };
        answers = refl;
        adds = adds_next p0 p1 p2 selection.looked waiting.mode so_far.polls one.poll so_far.adds one.adds;
        marks = both.shape.1;
      }
    where
      by_place : (poll : Poll) → ((c : ChanNo) → ready c ≡ told_of_channel selection.looked poll.pairs c)
          → (xs ys : List Act)
          → TellsSoFar selection (told_of selection waiting so_far.polls) xs → Tells selection poll ys (done answer)
          → (s : SelNo) (i bits : ℕ) (from : KeyMark)
          → Contains xs (Mark s i from bits (Ok tt)) ⊎ Contains ys (Mark s i from bits (Ok tt))
          → MarksReady ready selection.looked i bits
      by_place poll is xs ys here run s i bits from (inl before) = absurd (here.unmarked s i bits from before)
      by_place poll is xs ys here run s i bits from (inr last) =
          marks_ready ready selection poll ys (done answer) is run s i bits from last

  pub is_left : (result : Result Selected SelectError) → (result ≡ Err PollFault) ⊎ (result ≡ Err Memory)
      → LeavesIt me selection v1 v2 p1 p2 → PollsClause me selection waiting v0 v2 p0 p2 ready result
  is_left result answers leaves =
      let both : CallClause me (λ acts (r : SelectReply).
      SelectsRest (told_of selection waiting so_far.polls) (Ok selection) acts r × Unmarked acts) v0 v2 left =
      calls_then _ left
      (λ xs ys here run. (
        tells_and_leaves selection (told_of selection waiting so_far.polls) xs ys here run,
        unmarked_append xs ys here.unmarked (leave-unmarked selection ys run),
      )) so_far.call leaves.call in
      record {
        polls = so_far.polls;
        reply = left;
        call = record { acts = both.acts; shape = both.shape.0 };
        answers = answers;
        adds = subst (AddsPolls p0 p2) (append-nil (polls_of selection.looked waiting.mode so_far.polls))
            (adds_more p0 p1 p2 (polls_of selection.looked waiting.mode so_far.polls) [] so_far.adds leaves.adds);
        marks = λ s i bits from there. absurd (both.shape.1 s i bits from there);
      }

-- ---- in a loop's words

pub one_as : {me : CallerNo} {waiting : Waiting} {is_first : Bool} {v1 v2 : PassView} {p1 p2 : Option (List Polled)}
    {ready : ChanNo → ℕ} (selection now : Selection) (a b : After) → now ≡ selection → a ≡ b
    → TellsOne me now waiting is_first v1 v2 p1 p2 ready a → TellsOne me selection waiting is_first v1 v2 p1 p2 ready b
one_as {me = me} {waiting = waiting} {is_first = is_first} {v1 = v1} {v2 = v2} {p1 = p1} {p2 = p2} {ready = ready}
    selection now a b same is one =
    subst (λ (x : Selection). TellsOne me x waiting is_first v1 v2 p1 p2 ready b) same
    (subst (λ (x : After). TellsOne me now waiting is_first v1 v2 p1 p2 ready x) is one)

pub leaves_as : {me : CallerNo} {v1 v2 : PassView} {p1 p2 : Option (List Polled)} (selection now : Selection)
    → now ≡ selection
    → LeavesIt me now v1 v2 p1 p2 → LeavesIt me selection v1 v2 p1 p2
leaves_as {me = me} {v1 = v1} {v2 = v2} {p1 = p1} {p2 = p2} selection now same leaves =
    subst (λ (x : Selection). LeavesIt me x v1 v2 p1 p2) same leaves

pub if_again : (P : InHand → Type 0) (a : After) (next : InHand) → a ≡ after.Again next → IfAgain a P → P next
if_again P a next is here = subst (λ (x : After). IfAgain x P) is here

abbrev failed : SelectError → Result Selected SelectError
failed found = Err found

-- a poll that has no answer failed, or had no memory
pub why_left : (error : PollError) (found : SelectError) → found ≡ failed_with error
    → (failed found ≡ Err PollFault) ⊎ (failed found ≡ Err Memory)
why_left poll_error.Fault found is = inl (ap Err is)
why_left poll_error.Memory found is = inr (ap Err is)
