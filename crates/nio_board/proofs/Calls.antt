-- What a call on the table adds to the calls that a board's caller has made.
use Rattle.std.proofs.Common.{◌≡◌, ℕ, true, false, if◌then◌else◌, is_some, IsTrue, Option, Some, Ok, Err, List}
use Rattle.std.proofs.Common.{[], ◌∷◌}
use Rattle.std.specs.Prelude.{None, IfSome, option_map}
use Rattle.std.proofs.Common.{◌++◌, refl, ap, sym, ◌∙◌, subst, append_assoc}
use Rattle.std.proofs.lemmas.List.{append-nil}
use Rattle.std.proofs.lemmas.Option.{IfSome_then}
use Rattle.nio_base.specs.declared.limits.Limits.{Limits}
use Rattle.nio_base.specs.declared.numbers.CallerNo.{CallerNo}
use Rattle.nio_base.specs.declared.numbers.ChanId.{ChanId}
use Rattle.nio_base.specs.declared.numbers.KeyNo.{KeyNo}
use Rattle.nio_base.specs.declared.numbers.SelNo.{SelNo}
use Rattle.nio_history.proofs.Put.{put-same}
use Rattle.nio_history.specs.Histories.{mine}
use Rattle.nio_history.specs.PassViews.{ActsClause, HasNoPin, done_between}
use Rattle.nio_history.specs.State.{put}
use Rattle.nio_history.specs.declared.act.Act.{Act}
use Rattle.nio_history.specs.declared.act.Act.TheVariants.{DrawBit}
use Rattle.nio_history.specs.declared.found.Mode.{Mode}
use Rattle.nio_orderly.proofs.CallLists.{one_call_more, run_one}
use Rattle.nio_orderly.specs.Made.{Made, IsRun, after_call, after_calls, MayCome}
use Rattle.nio_orderly.specs.Made.{draw}
use Rattle.nio_orderly.proofs.WaitedCalls.{GoesOn, after_calls-append, told-goes_on}
use Rattle.nio_orderly.specs.Made.{table_call, waiting_call}
use Rattle.nio_orderly.specs.Orderly.{AreCallsOf}
use Rattle.nio_select.proofs.Progress.{list_after}
use Rattle.nio_select.specs.InHand.{HeldList, HeldSelector, InHand, empty_list, known_by, selection_of}
use Rattle.nio_select.specs.InProgress.{GivesBack, HasList, MaySelect, Selects}
use Rattle.nio_select.specs.declared.stamp.Stamp.{Stamp}
use Rattle.nio_board.proofs.Idle.{idle_after}
use Rattle.nio_board.specs.Board.{HoldsList, IsAtRest, IsIdle, IsSelecting, board_of, one_more}
use Rattle.nio_board.specs.BoardLaws.{DrawnIsUnregistered}
use Rattle.nio_board.specs.Called.{HasRegistered, IsUnregistered, registration, registrations, seats, table_channel}
use Rattle.nio_board.specs.declared.board.Station.{Station}
use Rattle.nio_board.specs.declared.deal.Deal.{Deal}
use Rattle.nio_steps.proofs.BeginLaws.{begin-parts}
use Rattle.nio_steps.proofs.PinBack.{no_pin_after}
use Rattle.nio_steps.proofs.PinLaws.{pins_are_given_back}
use Rattle.nio_steps.proofs.Walks.{always_run}
use Rattle.nio_steps.specs.Calls.{CallClause}
use Rattle.nio_steps.specs.Ongoing.{Ongoing, nothing_ongoing}
use Rattle.nio_steps.specs.PinLaws.{GivesPinsBack}
use Rattle.nio_steps.specs.Runs.{Completes}
use Rattle.nio_steps.specs.SelectCalls.{Selection, Poll, again, done, take_list_plan, told_plan}
use Rattle.nio_steps.specs.TableCalls.{register, take_list, try_begin, told, leave}
use Rattle.nio_steps.specs.TableCalls.{IsItsList as GoesBy}
use Rattle.nio_steps.specs.declared.looked.LookedKey.{LookedKey}
use Rattle.nio_steps.specs.declared.refusal.BeginError.{BeginError}
use Rattle.nio_steps.specs.declared.selected.Selected.{Selected}
use Rattle.nio_words.specs.Passes.{IsReady, acts_seen, limits_of}
use Rattle.nio_words.specs.Views.{view}
use Rattle.nio_words.specs.declared.words.Pass.{Pass}
use Rattle.nio_words.specs.declared.words.Words.{Words}

-- ---- one call more

registrations-append : (calls later : List Made)
    → registrations (calls ++ later) ≡ registrations calls ++ registrations later
registrations-append [] later = refl
registrations-append (call ∷ calls) later =
    ap (λ those. registration call ++ those) (registrations-append calls later)
    ∙ sym (append_assoc (registration call) (registrations calls) (registrations later))

call_more : (l : Limits) (own acts : List Act) (those : List (SelNo × ChanId)) (call : Made)
    (has : HasRegistered l own those) → MayCome (after_calls nothing_ongoing has.calls) call → IsRun l call acts
    → HasRegistered l (own ++ acts) (those ++ registration call)
call_more l own acts those call has may run = record {
  calls = has.calls ++ call ∷ [];
  are = one_call_more l own acts has.calls call has.are may run;
  registered = registrations-append has.calls (call ∷ [])
      ∙ (ap (λ xs. registrations has.calls ++ xs) (append-nil (registration call))
      ∙ ap (λ xs. xs ++ registration call) has.registered);
}

-- ---- a call with a pass

-- the caller made this call, and may step and has no pin after it
pub record DidCall (w : Words) (p q : Pass) (me : CallerNo) (call : Made) : Type 0 where
  pub did : ActsClause me (done_between me (view w p) (view w q)) (view w p) (view w q)
  pub runs : IsRun (limits_of w) call (done_between me (view w p) (view w q))
  pub ready : IsReady w q me
  pub unpinned : HasNoPin (view w q) me

-- a call that says itself that the caller has no pin
pub did_call : {R : Type 0} {Shape : List Act → R → Type 0} {answer : R} {w : Words} {p q : Pass} {me : CallerNo}
    (call : Made) → ((acts : List Act) → Shape acts answer → IsRun (limits_of w) call acts)
    → CallClause me Shape (view w p) (view w q) answer → IsReady w q me → HasNoPin (view w q) me
    → DidCall w p q me call
did_call call is_run clause ready none =
    record { did = clause.acts; runs = is_run _ clause.shape; ready = ready; unpinned = none }

-- a call that gives its pins back
pub did_unpinned : {R : Type 0} {Shape : List Act → R → Type 0} {answer : R} {w : Words} {p q : Pass} {me : CallerNo}
    (call : Made) → ((acts : List Act) → Shape acts answer → IsRun (limits_of w) call acts) → GivesPinsBack Shape
    → CallClause me Shape (view w p) (view w q) answer → IsReady w q me → HasNoPin (view w p) me
    → DidCall w p q me call
did_unpinned {answer = answer} call is_run gives clause ready none =
    did_call call is_run clause ready (no_pin_after (λ acts shape. gives acts answer shape) clause none)

has_after : {w : Words} {p q : Pass} {me : CallerNo} {those : List (SelNo × ChanId)} (call : Made)
    (has : HasRegistered (limits_of w) (acts_seen p me) those) → DidCall w p q me call
    → MayCome (after_calls nothing_ongoing has.calls) call
    → HasRegistered (limits_of w) (acts_seen q me) (those ++ registration call)
has_after {w} {p} {q} {me} {those} call has did may =
    let more = call_more (limits_of w) (acts_seen p me) (done_between me (view w p) (view w q)) those call has may
    did.runs in
    record {
      calls = more.calls;
      are = subst (λ own. AreCallsOf (limits_of w) own more.calls) (sym did.did.history.own) more.are;
      registered = more.registered;
    }

-- the same, under another name of the list
those_are : {l : Limits} {own : List Act} {those these : List (SelNo × ChanId)} → those ≡ these
    → HasRegistered l own those → HasRegistered l own these
those_are same has = record { calls = has.calls; are = has.are; registered = has.registered ∙ same }

-- a call that may come whatever is in progress, and that registers nothing
pub record IsFree (call : Made) : Type 0 where
  pub may_come : (now : Ongoing) → MayCome now call
  pub registers_nothing : registration call ≡ []

quiet_after : {w : Words} {p q : Pass} {me : CallerNo} {those : List (SelNo × ChanId)} (call : Made)
    (has : HasRegistered (limits_of w) (acts_seen p me) those) → registration call ≡ [] → DidCall w p q me call
    → MayCome (after_calls nothing_ongoing has.calls) call → HasRegistered (limits_of w) (acts_seen q me) those
quiet_after {those = those} call has nothing did may =
    those_are (ap (λ xs. those ++ xs) nothing ∙ append-nil those) (has_after call has did may)

pub unregistered_after : {w : Words} {p q : Pass} {me : CallerNo} (call : Made) → IsFree call → DidCall w p q me call
    → HasRegistered (limits_of w) (acts_seen p me) [] → HasRegistered (limits_of w) (acts_seen q me) []
unregistered_after call free did has = quiet_after call has free.registers_nothing did (free.may_come _)

-- ---- the lists that the caller has

-- after one call more
lists-more : (calls : List Made) (call : Made) (s : ℕ)
    → (after_calls nothing_ongoing (calls ++ call ∷ [])).list s
    ≡ (after_call (after_calls nothing_ongoing calls) call).list s
lists-more calls call s = ap (λ (o : Ongoing). o.list s) (after_calls-append nothing_ongoing calls (call ∷ []))

-- the call leaves the caller's lists as they are
abbrev pub KeepsLists : Made → Type 0
KeepsLists call = (now : Ongoing) → (after_call now call).list ≡ now.list

still_left : (calls : List Made) (call : Made) (s : ℕ) (known : List LookedKey) → KeepsLists call
    → (after_calls nothing_ongoing calls).list s ≡ Some known
    → (after_calls nothing_ongoing (calls ++ call ∷ [])).list s ≡ Some known
still_left calls call s known keeps left =
    lists-more calls call s
    ∙ (ap (λ (list : ℕ → Option (List LookedKey)). list s) (keeps (after_calls nothing_ongoing calls)) ∙ left)

holds_after : {w : Words} {p q : Pass} (at later : Station) {acts : List Act} (calls : List Made) (call : Made)
    (list : HeldList) → later.caller ≡ at.caller → later.selector ≡ at.selector
    → ActsClause at.caller acts (view w p) (view w q) → KeepsLists call → HoldsList (board_of w p at) calls list
    → HoldsList (board_of w q later) (calls ++ call ∷ []) list
holds_after {w} {q = q} at later calls call list caller selector did keeps holds = record {
  its = holds.its ∙ ap (λ (s : HeldSelector). s.number) (sym selector);
  had = subst (λ (n : CallerNo). HasList (view w q) n list) (sym caller) (list_after list did holds.had);
  left = subst (λ (s : HeldSelector). (after_calls nothing_ongoing (calls ++ call ∷ [])).list s.number.0
      ≡ Some list.keys) (sym selector) (still_left calls call at.selector.number.0 list.keys keeps holds.left);
}

-- ---- the board is at rest after a call that leaves the lists

rest_call : {w : Words} {p q : Pass} {at : Station} (call : Made) → registration call ≡ [] → KeepsLists call
    → DidCall w p q at.caller call → (rest : IsAtRest (board_of w p at))
    → MayCome (after_calls nothing_ongoing rest.watched.calls) call → IsAtRest (board_of w q at)
unfolding quiet_after those_are has_after call_more
rest_call {w} {p} {q} {at} call nothing keeps did rest may = record {
  idle = idle_after did.did did.ready did.unpinned rest.idle;
  watched = quiet_after call rest.watched nothing did may;
  list = IfSome_then at.selector.list rest.list
      (λ list holds. holds_after at at rest.watched.calls call list refl refl did.did keeps holds);
}

pub rest_after : {w : Words} {p q : Pass} {at : Station} (call : Made) → IsFree call → KeepsLists call
    → DidCall w p q at.caller call → IsAtRest (board_of w p at) → IsAtRest (board_of w q at)
rest_after call free keeps did rest = rest_call call free.registers_nothing keeps did rest (free.may_come _)

-- ---- a registration

seats-more : (deal : Option Deal) (s : SelNo) (cs : List ChanId) (c : ChanId)
    → seats deal s cs ++ (s, table_channel deal c) ∷ [] ≡ seats deal s (cs ++ c ∷ [])
seats-more deal s [] c = refl
seats-more deal s (x ∷ cs) c =
    ap (λ (those : List (SelNo × ChanId)). (s, table_channel deal x) ∷ those) (seats-more deal s cs c)

pub rest_registered : {w : Words} {p q : Pass} {at : Station} (own c : ChanId) (ops att : ℕ) (k : KeyNo)
    → own ≡ table_channel at.deal c
    → DidCall w p q at.caller (waiting_call (register at.selector.number own ops att) (Ok k))
    → IsAtRest (board_of w p at) → IsAtRest (board_of w q (one_more at c))
unfolding those_are has_after call_more
rest_registered {at = at} own c ops att k is did rest =
    let call = waiting_call (register at.selector.number own ops att) (Ok k) in
    record {
      idle = idle_after did.did did.ready did.unpinned rest.idle;
      watched = those_are
          (ap (λ (x : ChanId). seats at.deal at.selector.number at.registered ++ (at.selector.number, x) ∷ []) is
          ∙ seats-more at.deal at.selector.number at.registered c)
          (has_after call rest.watched did tt);
      list = IfSome_then at.selector.list rest.list
          (λ list holds. holds_after at (one_more at c) rest.watched.calls call list refl refl did.did (λ _. refl)
          holds);
    }

-- ---- a selection

-- after one call more
ongoing-more : (calls : List Made) (call : Made) (s : ℕ)
    → (after_calls nothing_ongoing (calls ++ call ∷ [])).selection s
    ≡ (after_call (after_calls nothing_ongoing calls) call).selection s
ongoing-more calls call s = ap (λ (o : Ongoing). o.selection s) (after_calls-append nothing_ongoing calls (call ∷ []))

-- the station, once it has this selector, and once it has this list of its selector
abbrev pub with_selector : Station → HeldSelector → Station
with_selector at s = record at { selector = s }

abbrev pub with_list : Station → Option HeldList → Station
with_list at list = with_selector at (record at.selector { list = list })

-- a selection may go by the list that the board has
may_begin : {w : Words} {p : Pass} {at : Station} (rest : IsAtRest (board_of w p at))
    → GoesBy at.selector.number (known_by at.selector) (after_calls nothing_ongoing rest.watched.calls)
may_begin {w} {p} {at} rest = by_list at.selector.list rest.list
  where
    by_list : (o : Option HeldList) → IfSome o (HoldsList (board_of w p at) rest.watched.calls)
        → GoesBy at.selector.number (option_map (λ (list : HeldList). list.keys) o)
        (after_calls nothing_ongoing rest.watched.calls)
    by_list None holds = tt
    by_list (Some list) holds = holds.left

pub may_select : {w : Words} {p : Pass} {at : Station} → IsAtRest (board_of w p at)
    → MaySelect (view w p) at.caller at.selector
may_select {at = at} rest = record {
  made = rest.idle.selector;
  had = IfSome_then at.selector.list rest.list (λ list holds. holds.had);
}

-- the list that a selection gives back is the one that the calls left
holds_back : (w : Words) (q : Pass) (at : Station) (s : InHand) (list : Option HeldList) (calls : List Made)
    → s.selector ≡ at.selector.number
    → (IsTrue (is_some s.asked.stamp) → (after_calls nothing_ongoing calls).list s.selector.0 ≡ Some s.asked.keys)
    → GivesBack (view w q) at.caller s list → IfSome list (HoldsList (board_of w q (with_list at list)) calls)
holds_back w q at s list calls on left gives =
    subst (λ o. IfSome o (HoldsList (board_of w q (with_list at list)) calls)) (sym gives.back)
    (by_stamp s.asked.stamp left (subst (λ o. IfSome o (HasList (view w q) at.caller)) gives.back gives.had))
  where
    its_list : Stamp → HeldList
    its_list stamp = record { selector = s.selector; number = stamp.number; keys = s.asked.keys }

    by_stamp : (o : Option Stamp)
        → (IsTrue (is_some o) → (after_calls nothing_ongoing calls).list s.selector.0 ≡ Some s.asked.keys)
        → IfSome (option_map its_list o) (HasList (view w q) at.caller)
        → IfSome (option_map its_list o) (HoldsList (board_of w q (with_list at list)) calls)
    by_stamp None left' had = tt
    by_stamp (Some stamp) left' had = record {
      its = on;
      had = had;
      left = subst (λ (k : SelNo). (after_calls nothing_ongoing calls).list k.0 ≡ Some s.asked.keys) on (left' refl);
    }

module _ {w : Words} {p q : Pass} {at : Station} where
  module _ (mode : Mode) (selection : Selection)
      (did : DidCall w p q at.caller
      (table_call (try_begin at.selector.number mode (known_by at.selector)) (Ok selection)))
      (rest : IsAtRest (board_of w p at)) where
    begins : Made
    begins = table_call (try_begin at.selector.number mode (known_by at.selector)) (Ok selection)

    pub rest_lent : IsAtRest (board_of w q (with_list at None))
    unfolding begins
    rest_lent = record {
      idle = idle_after did.did did.ready did.unpinned rest.idle;
      watched = quiet_after begins rest.watched refl did (may_begin rest);
      list = tt;
    }

    pub selecting_begun : Selects (view w q) at.caller selection
        → IsSelecting (board_of w q (with_list at None)) selection
    unfolding quiet_after those_are has_after call_more begins
    selecting_begun begun =
        let same : selection.selector ≡ at.selector.number
        = (begin-parts at.selector.number mode (known_by at.selector) _ selection did.runs).selector in
        let before = after_calls nothing_ongoing rest.watched.calls in
        record {
          begun = begun;
          on = same;
          lent = refl;
          watched = quiet_after begins rest.watched refl did (may_begin rest);
          ongoing = ongoing-more rest.watched.calls begins selection.selector.0
              ∙ (ap (λ (s : SelNo). put before.selection s.0 (Some selection) selection.selector.0) (sym same)
              ∙ put-same before.selection selection.selector.0 (Some selection));
          left = λ listed. lists-more rest.watched.calls begins selection.selector.0
              ∙ (ap (λ b. (if b then put before.list at.selector.number.0 (Some selection.looked) else before.list)
              selection.selector.0) listed
              ∙ (ap (λ (s : SelNo). put before.list s.0 (Some selection.looked) selection.selector.0) (sym same)
              ∙ put-same before.list selection.selector.0 (Some selection.looked)));
        }

  pub rest_unbegun : (mode : Mode) (refusal : BeginError)
      → DidCall w p q at.caller
      (table_call (try_begin at.selector.number mode (known_by at.selector)) (Err refusal))
      → IsAtRest (board_of w p at) → IsAtRest (board_of w q at)
  rest_unbegun mode refusal did rest =
      rest_call (table_call (try_begin at.selector.number mode (known_by at.selector)) (Err refusal)) refl
      (λ _. refl) did
      rest (may_begin rest)

  -- a call that ends the selection, or leaves it
  rest_over : (s : InHand) (list : Option HeldList) (call : Made) → registration call ≡ [] → KeepsLists call
      → DidCall w p q at.caller call → GivesBack (view w q) at.caller s list
      → (selecting : IsSelecting (board_of w p at) (selection_of s))
      → MayCome (after_calls nothing_ongoing selecting.watched.calls) call → IsAtRest (board_of w p at)
      → IsAtRest (board_of w q (with_list at list))
  unfolding quiet_after those_are has_after call_more
  rest_over s list call nothing keeps did gives selecting may rest = record {
    idle = idle_after did.did did.ready did.unpinned rest.idle;
    watched = quiet_after call selecting.watched nothing did may;
    list = holds_back w q at s list (selecting.watched.calls ++ call ∷ []) selecting.on
        (λ listed. still_left selecting.watched.calls call s.selector.0 s.asked.keys keeps (selecting.left listed))
        gives;
  }

  pub rest_left : (s : InHand) (list : Option HeldList)
      → DidCall w p q at.caller (table_call (leave (selection_of s)) tt) → GivesBack (view w q) at.caller s list
      → IsSelecting (board_of w p at) (selection_of s) → IsAtRest (board_of w p at)
      → IsAtRest (board_of w q (with_list at list))
  rest_left s list did gives selecting rest =
      rest_over s list (table_call (leave (selection_of s)) tt) refl (λ _. refl) did gives selecting
      selecting.ongoing rest

  pub rest_told : (s : InHand) (list : Option HeldList) (poll : Poll) (selected : Selected)
      → DidCall w p q at.caller (table_call (told (selection_of s) poll) (done selected))
      → GivesBack (view w q) at.caller s list → IsSelecting (board_of w p at) (selection_of s)
      → IsAtRest (board_of w p at) → IsAtRest (board_of w q (with_list at list))
  rest_told s list poll selected did gives selecting rest =
      rest_over s list (table_call (told (selection_of s) poll) (done selected)) refl (λ _. refl) did gives selecting
      selecting.ongoing rest

  module _ {selection : Selection} (poll : Poll) (next : Selection)
      (did : DidCall w p q at.caller (table_call (told selection poll) (again next)))
      (selecting : IsSelecting (board_of w p at) selection) where
    goes_on : Made
    goes_on = table_call (told selection poll) (again next)

    pub selecting_again : Selects (view w q) at.caller next → IsSelecting (board_of w q at) next
    unfolding quiet_after those_are has_after call_more goes_on
    selecting_again begun =
        let before = after_calls nothing_ongoing selecting.watched.calls in
        let same : next ≡ selection = always_run (λ _ r. GoesOn selection r)
        (told_plan selection poll.pairs poll.elapsed) _ (again next)
        (told-goes_on selection poll.pairs poll.elapsed) did.runs in
        record {
          begun = begun;
          on = ap (λ (x : Selection). x.selector) same ∙ selecting.on;
          lent = selecting.lent;
          watched = quiet_after goes_on selecting.watched refl did selecting.ongoing;
          ongoing = ongoing-more selecting.watched.calls goes_on next.selector.0
              ∙ (ap (λ (x : Selection). put before.selection x.selector.0 (Some next) next.selector.0) (sym same)
              ∙ put-same before.selection next.selector.0 (Some next));
          left = λ listed. subst (λ (x : Selection). (after_calls nothing_ongoing
              (selecting.watched.calls ++ goes_on ∷ [])).list x.selector.0 ≡ Some x.looked) (sym same)
              (still_left selecting.watched.calls goes_on selection.selector.0 selection.looked (λ _. refl)
              (selecting.left (subst (λ (x : Selection). IsTrue x.listed) same listed)));
        }

    pub rest_again : IsAtRest (board_of w p at) → IsAtRest (board_of w q at)
    unfolding quiet_after those_are has_after call_more goes_on
    rest_again rest = record {
      idle = idle_after did.did did.ready did.unpinned rest.idle;
      watched = quiet_after goes_on selecting.watched refl did selecting.ongoing;
      list = subst (λ (o : Option HeldList). IfSome o (HoldsList (board_of w q at)
          (selecting.watched.calls ++ goes_on ∷ []))) (sym selecting.lent) tt;
    }

-- ---- a new board

abbrev pub new_station : CallerNo → HeldSelector → Option Deal → Station
new_station me s deal = record { caller = me; selector = s; deal = deal; registered = [] }

taken_list : (w : Words) (q : Pass) (at : Station) (calls : List Made) (o : Option HeldList)
    → IfSome o (λ (l : HeldList). l ≡ empty_list at.selector.number) → IfSome o (HasList (view w q) at.caller)
    → IfSome o (HoldsList (board_of w q at)
    (calls ++ table_call (take_list at.selector.number) (is_some o) ∷ []))
taken_list w q at calls None is had = tt
taken_list w q at calls (Some l) is had = record {
  its = ap (λ (x : HeldList). x.selector) is;
  had = had;
  left = lists-more calls (table_call (take_list at.selector.number) true) at.selector.number.0
      ∙ (put-same (after_calls nothing_ongoing calls).list at.selector.number.0 (Some [])
      ∙ ap (λ (x : HeldList). Some x.keys) (sym is));
}

-- where it has taken its selector's list, or that was refused
pub rest_at_first : {w : Words} {p q : Pass} {me : CallerNo} (s : SelNo) (now : HeldSelector) (deal : Option Deal)
    → CallClause me (Completes (take_list_plan s)) (view w p) (view w q) (is_some now.list) → IsReady w q me
    → now.number ≡ s → IfSome now.list (λ (l : HeldList). l ≡ empty_list s) → MaySelect (view w q) me now
    → IsIdle w p me s → IsUnregistered (limits_of w) (acts_seen p me)
    → IsAtRest (board_of w q (new_station me now deal))
unfolding quiet_after those_are has_after call_more
rest_at_first {w} {p} {q} {me} s now deal clause ready number empty may idle has =
    let call = table_call (take_list now.number) (is_some now.list) in
    let did : DidCall w p q me call = did_unpinned call
    (λ acts run. subst (λ (x : SelNo). Completes (take_list_plan x) acts (is_some now.list)) (sym number) run)
    (pins_are_given_back.take_list s) clause ready idle.unpinned in
    record {
      idle = idle_after did.did ready did.unpinned (subst (IsIdle w p me) (sym number) idle);
      watched = quiet_after call has refl did tt;
      list = taken_list w q (new_station me now deal) has.calls now.list
          (subst (λ (x : SelNo). IfSome now.list (λ (l : HeldList). l ≡ empty_list x)) (sym number) empty) may.had;
    }

-- ---- before there is a board

-- where a caller only drew its number
pub only_drawn : (l : Limits) (me : CallerNo) (own : List Act) → own ≡ DrawBit me false ∷ [] → IsUnregistered l own
only_drawn l me own is = record {
  calls = draw me ∷ [];
  are = record { runs = run_one l (draw me) own is; in_order = (tt, tt) };
  registered = refl;
}

pub drawn_is_unregistered : DrawnIsUnregistered
drawn_is_unregistered w p q me first draws =
    let none : acts_seen p me ≡ [] = ap (mine me) first.unseen in
    only_drawn (limits_of w) me (acts_seen q me) (draws.clause.own ∙ ap (λ xs. xs ++ DrawBit me false ∷ []) none)
