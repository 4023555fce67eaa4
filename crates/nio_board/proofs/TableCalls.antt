-- After each call that a board makes on its table the board is at rest.
use Rattle.std.proofs.Common.{◌≡◌, ℕ, Bool, Option, Some, Result, Ok, Err, refl, sym, subst}
use Rattle.std.specs.Prelude.{IfSome, None, option_map}
use Rattle.nio_base.specs.declared.kind.Kind.{Kind}
use Rattle.nio_base.specs.declared.numbers.ChanId.{ChanId}
use Rattle.nio_base.specs.declared.numbers.KeyNo.{KeyNo}
use Rattle.nio_base.specs.declared.numbers.SelNo.{SelNo}
use Rattle.nio_history.specs.PassViews.{HasNoPin}
use Rattle.nio_history.specs.declared.found.Mode.{Mode}
use Rattle.nio_orderly.specs.Made.{table_call, waiting_call}
use Rattle.nio_poller.proofs.Trying.{begin_gives}
use Rattle.nio_select.specs.InHand.{HeldList, HeldSelector, InHand, known_by, list_of, selection_of}
use Rattle.nio_select.specs.InProgress.{GivesBack, Selects}
use Rattle.nio_select.specs.declared.stamp.Stamp.{Stamp}
use Rattle.nio_board.proofs.Calls.{DidCall, did_call, did_unpinned, rest_after, rest_registered, rest_left, rest_told}
use Rattle.nio_board.proofs.Calls.{rest_again, rest_lent, rest_unbegun, selecting_begun, selecting_again}
use Rattle.nio_board.proofs.Calls.{with_selector}
use Rattle.nio_board.specs.Board.{IsAtRest, IsSameBoard, IsSelecting, board_of, one_more}
use Rattle.nio_board.specs.Called.{table_channel}
use Rattle.nio_board.specs.declared.board.Station.{Station}
use Rattle.nio_steps.proofs.PinLaws.{pins_are_given_back}
use Rattle.nio_steps.specs.Calls.{CallClause}
use Rattle.nio_steps.specs.ChannelCalls.{open_channel_plan, reopen_channel_plan, close_channel_plan, SetsBlocking, Registers}
use Rattle.nio_steps.specs.KeyCalls.{find_plan, find_channel_plan, set_interest_plan, cancel_plan}
use Rattle.nio_steps.specs.Runs.{Completes}
use Rattle.nio_steps.specs.SelectCalls.{Selection, Begins, Poll, Tells, ToldReply, again, done, leave_plan}
use Rattle.nio_steps.specs.TableCalls.{find, find_channel, set_interest, cancel, open_channel, reopen_channel, set_blocking}
use Rattle.nio_steps.specs.TableCalls.{register}
use Rattle.nio_steps.specs.TableCalls.{close_channel, try_begin, told, leave}
use Rattle.nio_steps.specs.declared.refusal.BeginError.{BeginError}
use Rattle.nio_steps.specs.declared.refusal.ChannelError.{ChannelError}
use Rattle.nio_steps.specs.declared.refusal.KeyError.{KeyError}
use Rattle.nio_steps.specs.declared.refusal.ReopenError.{ReopenError}
use Rattle.nio_steps.specs.declared.selected.Selected.{Selected}
use Rattle.nio_words.specs.Passes.{IsReady, limits_of}
use Rattle.nio_words.specs.Views.{view}
use Rattle.nio_words.specs.declared.words.Pass.{Pass}
use Rattle.nio_words.specs.declared.words.Words.{Words}

-- the station after a call, as it is known by an equation
at_selector : (w : Words) (q : Pass) (at : Station) (s now : HeldSelector) → now ≡ s
    → IsAtRest (board_of w q (with_selector at s)) → IsAtRest (board_of w q (with_selector at now))
at_selector w q at s now is rest =
    subst (λ (x : HeldSelector). IsAtRest (board_of w q (with_selector at x))) (sym is) rest

-- the list that a selection of the board gives back is that of the board's selector
pub its_selector : {w : Words} {p : Pass} {at : Station} (s : InHand) (list : Option HeldList) → list ≡ list_of s
    → IsSelecting (board_of w p at) (selection_of s)
    → IfSome list (λ (l : HeldList). l.selector ≡ at.selector.number)
its_selector {at = at} s list back selecting =
    subst (λ (o : Option HeldList). IfSome o (λ (l : HeldList). l.selector ≡ at.selector.number)) (sym back)
    (by_stamp s.asked.stamp)
  where
    its_list : Stamp → HeldList
    its_list stamp = record { selector = s.selector; number = stamp.number; keys = s.asked.keys }

    by_stamp : (o : Option Stamp) → IfSome (option_map its_list o) (λ (l : HeldList). l.selector ≡ at.selector.number)
    by_stamp None = tt
    by_stamp (Some stamp) = selecting.on

module _ {w : Words} {p q : Pass} {at : Station} where
  pub rest_found : (s : SelNo) (index serial : ℕ) {answer : Option KeyNo}
      → CallClause at.caller (Completes (find_plan (limits_of w) s index serial)) (view w p) (view w q) answer
      → IsReady w q at.caller → IsAtRest (board_of w p at) → IsAtRest (board_of w q at)
  rest_found s index serial {answer} clause ready rest =
      rest_after (table_call (find s index serial) answer) (record { may_come = λ _. tt; registers_nothing = refl })
      (λ _. refl)
      (did_unpinned (table_call (find s index serial) answer) (λ _ run. run)
      (pins_are_given_back.find _ _ _ _) clause
      ready rest.idle.unpinned) rest

  pub rest_found_channel : (n serial : ℕ) {answer : Option ChanId}
      → CallClause at.caller (Completes (find_channel_plan (limits_of w) n serial)) (view w p) (view w q) answer
      → IsReady w q at.caller → IsAtRest (board_of w p at) → IsAtRest (board_of w q at)
  rest_found_channel n serial {answer} clause ready rest =
      rest_after (table_call (find_channel n serial) answer)
      (record { may_come = λ _. tt; registers_nothing = refl }) (λ _. refl)
      (did_unpinned (table_call (find_channel n serial) answer) (λ _ run. run)
      (pins_are_given_back.find_channel _ _ _) clause
      ready
      rest.idle.unpinned) rest

  pub rest_set : (k : KeyNo) (ops : ℕ) {answer : Result (Unit {0}) KeyError}
      → CallClause at.caller (Completes (set_interest_plan k ops)) (view w p) (view w q) answer
      → IsReady w q at.caller → HasNoPin (view w q) at.caller
      → IsAtRest (board_of w p at) → IsAtRest (board_of w q at)
  rest_set k ops {answer} clause ready none rest =
      rest_after (table_call (set_interest k ops) answer) (record { may_come = λ _. tt; registers_nothing = refl })
      (λ _. refl)
      (did_call (table_call (set_interest k ops) answer) (λ _ run. run) clause ready none) rest

  pub rest_cancelled : (k : KeyNo) {answer : Unit {0}}
      → CallClause at.caller (Completes (cancel_plan k)) (view w p) (view w q) answer
      → IsReady w q at.caller → HasNoPin (view w q) at.caller
      → IsAtRest (board_of w p at) → IsAtRest (board_of w q at)
  rest_cancelled k clause ready none rest =
      rest_after (table_call (cancel k) tt) (record { may_come = λ _. tt; registers_nothing = refl }) (λ _. refl)
      (did_call (table_call (cancel k) tt) (λ _ run. run) clause ready none) rest

  pub rest_opened : (kind : Kind) {answer : Result ChanId ChannelError}
      → CallClause at.caller (Completes (open_channel_plan (limits_of w) kind)) (view w p) (view w q) answer
      → IsReady w q at.caller → IsAtRest (board_of w p at) → IsAtRest (board_of w q at)
  rest_opened kind {answer} clause ready rest =
      rest_after (table_call (open_channel kind) answer) (record { may_come = λ _. tt; registers_nothing = refl })
      (λ _. refl)
      (did_unpinned (table_call (open_channel kind) answer) (λ _ run. run) (pins_are_given_back.open_channel _ _)
      clause ready
      rest.idle.unpinned) rest

  pub rest_reopened : (c : ChanId) {answer : Result ChanId ReopenError}
      → CallClause at.caller (Completes (reopen_channel_plan (limits_of w) c)) (view w p) (view w q) answer
      → IsReady w q at.caller → IsAtRest (board_of w p at) → IsAtRest (board_of w q at)
  rest_reopened c {answer} clause ready rest =
      rest_after (table_call (reopen_channel c) answer) (record { may_come = λ _. tt; registers_nothing = refl })
      (λ _. refl)
      (did_unpinned (table_call (reopen_channel c) answer) (λ _ run. run) (pins_are_given_back.reopen_channel _ _)
      clause ready
      rest.idle.unpinned) rest

  pub rest_closed : (c : ChanId) {answer : Bool}
      → CallClause at.caller (Completes (close_channel_plan (limits_of w) c)) (view w p) (view w q) answer
      → IsReady w q at.caller → HasNoPin (view w q) at.caller
      → IsAtRest (board_of w p at) → IsAtRest (board_of w q at)
  rest_closed c {answer} clause ready none rest =
      rest_after (table_call (close_channel c) answer) (record { may_come = λ _. tt; registers_nothing = refl })
      (λ _. refl)
      (did_call (table_call (close_channel c) answer) (λ _ run. run) clause ready none) rest

  pub rest_unblocked : (c : ChanId) (on : Bool) {answer : Result (Unit {0}) ChannelError}
      → CallClause at.caller (SetsBlocking (limits_of w) c on) (view w p) (view w q) answer
      → IsReady w q at.caller → IsAtRest (board_of w p at) → IsAtRest (board_of w q at)
  rest_unblocked c on {answer} clause ready rest =
      rest_after (waiting_call (set_blocking c on) answer) (record { may_come = λ _. tt; registers_nothing = refl })
      (λ _. refl)
      (did_unpinned (waiting_call (set_blocking c on) answer) (λ _ run. run) (pins_are_given_back.set_blocking _ _ _)
      clause ready
      rest.idle.unpinned) rest

  pub rest_refused : (s : SelNo) (c : ChanId) (ops att : ℕ) {answer : Result KeyNo ChannelError}
      (refusal : ChannelError) → answer ≡ Err refusal
      → CallClause at.caller (Registers (limits_of w) s c ops att) (view w p) (view w q) answer
      → IsReady w q at.caller → HasNoPin (view w q) at.caller
      → IsAtRest (board_of w p at) → IsAtRest (board_of w q at)
  rest_refused s c ops att refusal is clause ready none rest =
      rest_after (waiting_call (register s c ops att) (Err refusal))
      (record { may_come = λ _. tt; registers_nothing = refl }) (λ _. refl)
      (did_call (waiting_call (register s c ops att) (Err refusal))
      (λ acts run. subst (Registers (limits_of w) s c ops att acts) is run) clause ready none) rest

  pub rest_watched : (s : SelNo) (own c : ChanId) (ops att : ℕ) {answer : Result KeyNo ChannelError} (k : KeyNo)
      → s ≡ at.selector.number → answer ≡ Ok k → own ≡ table_channel at.deal c
      → CallClause at.caller (Registers (limits_of w) s own ops att) (view w p) (view w q) answer
      → IsReady w q at.caller → HasNoPin (view w q) at.caller
      → IsAtRest (board_of w p at) → IsAtRest (board_of w q (one_more at c))
  rest_watched s own c ops att k its is same clause ready none rest =
      rest_registered own c ops att k same
      (did_call (waiting_call (register at.selector.number own ops att) (Ok k))
      (λ acts run. subst (λ (x : SelNo). Registers (limits_of w) x own ops att acts (Ok k)) its
      (subst (Registers (limits_of w) s own ops att acts) is run)) clause ready none) rest

  -- ---- selections

  did_begin : (mode : Mode) {answer : Result Selection BeginError} (reply : Result Selection BeginError)
      → answer ≡ reply
      → CallClause at.caller (Begins at.selector.number mode (known_by at.selector)) (view w p) (view w q) answer
      → IsReady w q at.caller → IsAtRest (board_of w p at)
      → DidCall w p q at.caller (table_call (try_begin at.selector.number mode (known_by at.selector)) reply)
  did_begin mode reply is clause ready rest =
      did_unpinned (table_call (try_begin at.selector.number mode (known_by at.selector)) reply)
      (λ acts run. subst (Begins at.selector.number mode (known_by at.selector) acts) is run)
      (begin_gives at.selector.number mode (known_by at.selector)) clause ready rest.idle.unpinned

  module _ (mode : Mode) {answer : Result Selection BeginError} (now : HeldSelector)
      (clause : CallClause at.caller (Begins at.selector.number mode (known_by at.selector)) (view w p) (view w q)
      answer)
      (ready : IsReady w q at.caller) (rest : IsAtRest (board_of w p at)) where
    pub rest_begun : (selection : Selection) → answer ≡ Ok selection → now ≡ record at.selector { list = None }
        → IsAtRest (board_of w q (with_selector at now))
    rest_begun selection is lent =
        at_selector w q at (record at.selector { list = None }) now lent
        (rest_lent mode selection (did_begin mode (Ok selection) is clause ready rest) rest)

    pub selects_begun : (selection : Selection) → answer ≡ Ok selection → now ≡ record at.selector { list = None }
        → Selects (view w q) at.caller selection → IsSelecting (board_of w q (with_selector at now)) selection
    selects_begun selection is lent begun =
        subst (λ (x : HeldSelector). IsSelecting (board_of w q (with_selector at x)) selection) (sym lent)
        (selecting_begun mode selection (did_begin mode (Ok selection) is clause ready rest) rest begun)

    pub rest_refused_begin : (refusal : BeginError) → answer ≡ Err refusal → now ≡ at.selector
        → IsAtRest (board_of w q (with_selector at now))
    rest_refused_begin refusal is same =
        at_selector w q at at.selector now same
        (rest_unbegun mode refusal (did_begin mode (Err refusal) is clause ready rest) rest)

  pub rest_leaves : (s : InHand) (list : Option HeldList) (now : HeldSelector) {answer : Unit {0}}
      → now ≡ record at.selector { list = list }
      → CallClause at.caller (Completes (leave_plan (selection_of s))) (view w p) (view w q) answer
      → IsReady w q at.caller → GivesBack (view w q) at.caller s list
      → IsSelecting (board_of w p at) (selection_of s) → IsAtRest (board_of w p at)
      → IsAtRest (board_of w q (with_selector at now))
  rest_leaves s list now is clause ready back selecting rest =
      at_selector w q at (record at.selector { list = list }) now is
      (rest_left s list
      (did_unpinned (table_call (leave (selection_of s)) tt) (λ _ run. run) (pins_are_given_back.leave _) clause ready
      rest.idle.unpinned) back selecting rest)

  did_tell : {selection : Selection} (poll : Poll) {answer : ToldReply} (reply : ToldReply) → answer ≡ reply
      → CallClause at.caller (Tells selection poll) (view w p) (view w q) answer → IsReady w q at.caller
      → IsAtRest (board_of w p at) → DidCall w p q at.caller (table_call (told selection poll) reply)
  did_tell {selection} poll reply is clause ready rest =
      did_unpinned (table_call (told selection poll) reply) (λ acts run. subst (Tells selection poll acts) is run)
      (pins_are_given_back.told _ _ _) clause ready rest.idle.unpinned

  pub rest_tells : (s : InHand) (list : Option HeldList) (now : HeldSelector) (poll : Poll) {answer : ToldReply}
      (selected : Selected) → now ≡ record at.selector { list = list } → answer ≡ done selected
      → CallClause at.caller (Tells (selection_of s) poll) (view w p) (view w q) answer
      → IsReady w q at.caller → GivesBack (view w q) at.caller s list
      → IsSelecting (board_of w p at) (selection_of s) → IsAtRest (board_of w p at)
      → IsAtRest (board_of w q (with_selector at now))
  rest_tells s list now poll selected is told_is clause ready back selecting rest =
      at_selector w q at (record at.selector { list = list }) now is
      (rest_told s list poll selected (did_tell poll (done selected) told_is clause ready rest) back selecting rest)

  module _ {selection : Selection} (poll : Poll) {answer : ToldReply} (next : Selection) (is : answer ≡ again next)
      (clause : CallClause at.caller (Tells selection poll) (view w p) (view w q) answer)
      (ready : IsReady w q at.caller)
      (rest : IsAtRest (board_of w p at)) (selecting : IsSelecting (board_of w p at) selection) where
    pub rest_goes_on : IsAtRest (board_of w q at)
    rest_goes_on = rest_again poll next (did_tell poll (again next) is clause ready rest) selecting rest

    pub selects_again : Selects (view w q) at.caller next → IsSelecting (board_of w q at) next
    selects_again begun = selecting_again poll next (did_tell poll (again next) is clause ready rest) selecting begun

  -- ---- the same board

  pub same_board : (now : HeldSelector) → now.number ≡ at.selector.number
      → IsSameBoard (board_of w p at) (board_of w q (with_selector at now))
  same_board now number = record {
    seat = record { words = refl; caller = refl; selector = number; deal = refl };
    registered = refl;
  }
