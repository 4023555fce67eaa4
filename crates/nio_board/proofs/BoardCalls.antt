-- Which calls were made, from the clauses of the calls on the table.
use Rattle.std.proofs.Common.{◌≡◌, ◌≢◌, ℕ, suc, ◌-◌, ◌≤◌, Bool, true, false, Option, Some, None, Result, Ok, Err, OnOk}
use Rattle.std.proofs.Common.{OnErr, arith}
use Rattle.std.proofs.Common.{is_err}
use Rattle.std.proofs.Common.{List, [], ◌∷◌, ◌++◌}
use Rattle.std.proofs.Common.{◌==◌, ◌&&◌, refl, ap, sym, ◌∙◌, subst, append_assoc, eq-eqb}
use Rattle.std.proofs.lemmas.Bool.{false≢true}
use Rattle.std.proofs.lemmas.List.{append-nil}
use Rattle.nio_base.specs.declared.kind.Kind.{Kind}
use Rattle.nio_base.specs.declared.numbers.ChanId.{ChanId}
use Rattle.nio_base.specs.declared.numbers.KeyNo.{KeyNo}
use Rattle.nio_base.specs.declared.numbers.SelNo.{SelNo}
use Rattle.nio_history.specs.PassViews.{done_between}
use Rattle.nio_history.specs.declared.act.Act.{Act}
use Rattle.nio_history.specs.declared.found.Mode.TheVariants.{Wait}
use Rattle.nio_orderly.proofs.CallLists.{run_one, runs_append}
use Rattle.nio_orderly.specs.Made.{Made, IsRun, table_call, waiting_call}
use Rattle.nio_orderly.specs.Orderly.{AreRuns, Parts}
use Rattle.nio_select.specs.InHand.{HeldSelector, known_by}
use Rattle.nio_board.proofs.Calls.{with_selector}
use Rattle.nio_board.specs.Board.{BoardView, board_of}
use Rattle.nio_board.specs.BoardCalls.{AreMade, HasMade, Takes, finds, finds_channel, opens, reopens}
use Rattle.nio_board.specs.BoardCalls.{after_it, first_found, first_opened, registers, reopened, SetsInterest}
use Rattle.nio_board.specs.BoardCalls.{interest_set, FailsToSet, set_not_found}
use Rattle.nio_board.specs.BoardCalls.{set_refused, CancelsKey, key_not_found, key_cancelled, ClosesChannel}
use Rattle.nio_board.specs.BoardCalls.{channel_not_found, channel_closed, TellsPoll, selection_over, selection_again}
use Rattle.nio_board.specs.BoardCalls.{LeavesSelection, selection_left, BeginsSelection, selection_begun}
use Rattle.nio_board.specs.BoardCalls.{FailsToBegin}
use Rattle.nio_board.specs.BoardCalls.{begin_refused, FailsToOpen, open_refused, opened_other, FailsToFind}
use Rattle.nio_board.specs.BoardCalls.{found_none}
use Rattle.nio_board.specs.BoardCalls.{found_other, FailsToRegister, register_refused, WatchesChannel}
use Rattle.nio_board.specs.BoardCalls.{channel_watched}
use Rattle.nio_board.specs.BoardCalls.{FailsToWatch, watch_not_taken, watch_still_blocking, watch_not_registered}
use Rattle.nio_board.specs.BoardCalls.{FailsToTake, take_unopened, take_unfound, take_unreopened, FailsToReopen}
use Rattle.nio_board.specs.BoardCalls.{before_unfound, reopen_refused}
use Rattle.nio_board.specs.Polling.{BeginsAndLeaves, SelectsBy}
use Rattle.nio_board.specs.declared.board.Station.{Station}
use Rattle.nio_board.specs.declared.deal.Deal.{Deal}
use Rattle.nio_steps.specs.Calls.{CallClause}
use Rattle.nio_steps.specs.KeyCalls.{find_plan, find_channel_plan, set_interest_plan, cancel_plan}
use Rattle.nio_steps.specs.ChannelCalls.{open_channel_plan, reopen_channel_plan, close_channel_plan, SetsBlocking}
use Rattle.nio_steps.specs.ChannelCalls.{Registers}
use Rattle.nio_steps.specs.Runs.{Completes}
use Rattle.nio_steps.specs.SelectCalls.{Selection, Begins, Poll, Tells, ToldReply, done, again, leave_plan}
use Rattle.nio_steps.specs.TableCalls.{set_interest, cancel, open_channel, reopen_channel, close_channel, try_begin}
use Rattle.nio_steps.specs.TableCalls.{told, leave}
use Rattle.nio_steps.specs.TableCalls.{set_blocking, register}
use Rattle.nio_steps.specs.declared.refusal.BeginError.{BeginError}
use Rattle.nio_steps.specs.declared.refusal.ChannelError.{ChannelError}
use Rattle.nio_steps.specs.declared.refusal.KeyError.{KeyError}
use Rattle.nio_steps.specs.declared.refusal.ReopenError.{ReopenError}
use Rattle.nio_steps.specs.declared.selected.Selected.{Selected}
use Rattle.nio_words.specs.Passes.{acts_seen, limits_of}
use Rattle.nio_words.specs.Views.{view}
use Rattle.nio_words.specs.declared.words.Pass.{Pass}
use Rattle.nio_words.specs.declared.words.Words.{Words}

-- ---- lists of calls

-- one call, with its reply
made_call : {R : Type 0} {Shape : List Act → R → Type 0} {answer : R} (w : Words) (p q : Pass) (at : Station)
    (call : Made) (reply : R) → answer ≡ reply
    → ((acts : List Act) → Shape acts reply → IsRun (limits_of w) call acts)
    → CallClause at.caller Shape (view w p) (view w q) answer
    → AreMade (board_of w p at) (board_of w q at) (call ∷ [])
made_call {Shape = Shape} w p q at call reply is is_run clause =
    let acts = done_between at.caller (view w p) (view w q) in
    record {
      acts = acts;
      own = clause.acts.history.own;
      runs = run_one (limits_of w) call acts (is_run acts (subst (Shape acts) is clause.shape));
    }

-- some calls, and others after them
made_then : {a b c : BoardView} (xs ys : List Made) → b.words ≡ a.words → AreMade a b xs → AreMade b c ys
    → AreMade a c (xs ++ ys)
made_then {a} {b} {c} xs ys words first second = record {
  acts = first.acts ++ second.acts;
  own = second.own
      ∙ (ap (λ own. own ++ second.acts) first.own
      ∙ append_assoc (acts_seen a.pass a.caller) first.acts second.acts);
  runs = runs_append (limits_of a.words) xs ys first.acts second.acts first.runs
      (subst (λ w. AreRuns (limits_of w) ys second.acts) words second.runs);
}

-- the calls of two kinds, one kind after the other
pub made_both : {a b c : BoardView} (First Second : List Made → Type 0) → b.words ≡ a.words → HasMade a b First
    → HasMade b c Second → HasMade a c (Parts First Second)
made_both First Second words first second = record {
  calls = first.calls ++ second.calls;
  holds = record {
    first = first.calls;
    second = second.calls;
    parts = refl;
    is_first = first.holds;
    is_second = second.holds;
  };
  made = made_then first.calls second.calls words first.made second.made;
}

-- the same calls, of which something else holds too
pub made_as : {a b : BoardView} (First Second : List Made → Type 0)
    → ((calls : List Made) → First calls → Second calls)
    → HasMade a b First → HasMade a b Second
made_as First Second weaker made =
    record { calls = made.calls; holds = weaker made.calls made.holds; made = made.made }

-- no call
pub none_made : (a : BoardView) → AreMade a a []
none_made a = record { acts = []; own = sym (append-nil (acts_seen a.pass a.caller)); runs = refl }

pub made_nothing : (a : BoardView) (Holds : List Made → Type 0) → Holds [] → HasMade a a Holds
made_nothing a Holds holds = record { calls = []; holds = holds; made = none_made a }

-- ---- keys

made_find : {answer : Option KeyNo} (w : Words) (p q : Pass) (at : Station) (s : SelNo) (k : KeyNo)
    (found : Option KeyNo) → s ≡ at.selector.number → answer ≡ found
    → CallClause at.caller (Completes (find_plan (limits_of w) s k.index k.serial)) (view w p) (view w q) answer
    → AreMade (board_of w p at) (board_of w q at) (finds at.selector.number k found ∷ [])
made_find w p q at s k found its is clause =
    made_call w p q at (finds at.selector.number k found) found is
    (λ acts run. subst (λ (x : SelNo). Completes (find_plan (limits_of w) x k.index k.serial) acts found) its run)
    clause

made_set : {answer : Result (Unit {0}) KeyError} (w : Words) (p q : Pass) (at : Station) (k : KeyNo) (ops : ℕ)
    (reply : Result (Unit {0}) KeyError) → answer ≡ reply
    → CallClause at.caller (Completes (set_interest_plan k ops)) (view w p) (view w q) answer
    → AreMade (board_of w p at) (board_of w q at) (table_call (set_interest k ops) reply ∷ [])
made_set w p q at k ops reply is clause =
    made_call w p q at (table_call (set_interest k ops) reply) reply is (λ _ run. run) clause

pub sets_interest : {found : Option KeyNo} {answer : Result (Unit {0}) KeyError} (w : Words) (p q r : Pass)
    (at : Station) (s : SelNo) (k : KeyNo) (ops : ℕ) (key : KeyNo) → s ≡ at.selector.number → found ≡ Some key
    → answer ≡ Ok tt
    → CallClause at.caller (Completes (find_plan (limits_of w) s k.index k.serial)) (view w p) (view w q) found
    → CallClause at.caller (Completes (set_interest_plan key ops)) (view w q) (view w r) answer
    → HasMade (board_of w p at) (board_of w r at) (SetsInterest at.selector.number k ops)
sets_interest w p q r at s k ops key its is_found is_set found set = record {
  calls = finds at.selector.number k (Some key) ∷ table_call (set_interest key ops) (Ok tt) ∷ [];
  holds = interest_set key;
  made = made_then (finds at.selector.number k (Some key) ∷ []) (table_call (set_interest key ops) (Ok tt) ∷ []) refl
      (made_find w p q at s k (Some key) its is_found found) (made_set w q r at key ops (Ok tt) is_set set);
}

pub set_is_refused : {found : Option KeyNo} {answer : Result (Unit {0}) KeyError} (w : Words) (p q r : Pass)
    (at : Station) (s : SelNo) (k : KeyNo) (ops : ℕ) (key : KeyNo) (refusal : KeyError) → s ≡ at.selector.number
    → found ≡ Some key → answer ≡ Err refusal
    → CallClause at.caller (Completes (find_plan (limits_of w) s k.index k.serial)) (view w p) (view w q) found
    → CallClause at.caller (Completes (set_interest_plan key ops)) (view w q) (view w r) answer
    → HasMade (board_of w p at) (board_of w r at) (FailsToSet at.selector.number k ops)
set_is_refused w p q r at s k ops key refusal its is_found is_set found set = record {
  calls = finds at.selector.number k (Some key) ∷ table_call (set_interest key ops) (Err refusal) ∷ [];
  holds = set_refused key refusal;
  made = made_then (finds at.selector.number k (Some key) ∷ [])
      (table_call (set_interest key ops) (Err refusal) ∷ []) refl
      (made_find w p q at s k (Some key) its is_found found) (made_set w q r at key ops (Err refusal) is_set set);
}

pub set_finds_none : {found : Option KeyNo} (w : Words) (p q : Pass) (at : Station) (s : SelNo) (k : KeyNo) (ops : ℕ)
    → s ≡ at.selector.number → found ≡ None
    → CallClause at.caller (Completes (find_plan (limits_of w) s k.index k.serial)) (view w p) (view w q) found
    → HasMade (board_of w p at) (board_of w q at) (FailsToSet at.selector.number k ops)
set_finds_none w p q at s k ops its is found = record {
  calls = finds at.selector.number k None ∷ [];
  holds = set_not_found;
  made = made_find w p q at s k None its is found;
}

pub cancels_key : {found : Option KeyNo} {answer : Unit {0}} (w : Words) (p q r : Pass) (at : Station) (s : SelNo)
    (k key : KeyNo) → s ≡ at.selector.number → found ≡ Some key
    → CallClause at.caller (Completes (find_plan (limits_of w) s k.index k.serial)) (view w p) (view w q) found
    → CallClause at.caller (Completes (cancel_plan key)) (view w q) (view w r) answer
    → HasMade (board_of w p at) (board_of w r at) (CancelsKey at.selector.number k)
cancels_key w p q r at s k key its is found cancelled = record {
  calls = finds at.selector.number k (Some key) ∷ table_call (cancel key) tt ∷ [];
  holds = key_cancelled key;
  made = made_then (finds at.selector.number k (Some key) ∷ []) (table_call (cancel key) tt ∷ []) refl
      (made_find w p q at s k (Some key) its is found)
      (made_call w q r at (table_call (cancel key) tt) tt refl (λ _ run. run) cancelled);
}

pub cancel_finds_none : {found : Option KeyNo} (w : Words) (p q : Pass) (at : Station) (s : SelNo) (k : KeyNo)
    → s ≡ at.selector.number → found ≡ None
    → CallClause at.caller (Completes (find_plan (limits_of w) s k.index k.serial)) (view w p) (view w q) found
    → HasMade (board_of w p at) (board_of w q at) (CancelsKey at.selector.number k)
cancel_finds_none w p q at s k its is found = record {
  calls = finds at.selector.number k None ∷ [];
  holds = key_not_found;
  made = made_find w p q at s k None its is found;
}

-- ---- channels

pub made_find_channel : {answer : Option ChanId} (w : Words) (p q : Pass) (at : Station) (c : ChanId)
    (found : Option ChanId) → answer ≡ found
    → CallClause at.caller (Completes (find_channel_plan (limits_of w) c.number.0 c.serial)) (view w p) (view w q) answer
    → AreMade (board_of w p at) (board_of w q at) (finds_channel c found ∷ [])
made_find_channel w p q at c found is clause =
    made_call w p q at (finds_channel c found) found is (λ _ run. run) clause

made_close : (w : Words) (p q : Pass) (at : Station) (c : ChanId) (first : Bool)
    → CallClause at.caller (Completes (close_channel_plan (limits_of w) c)) (view w p) (view w q) first
    → AreMade (board_of w p at) (board_of w q at) (table_call (close_channel c) first ∷ [])
made_close w p q at c first clause =
    made_call w p q at (table_call (close_channel c) first) first refl (λ _ run. run) clause

pub closes_channel : {found : Option ChanId} (w : Words) (p q r : Pass) (at : Station) (c : ChanId) (made : ChanId)
    (first : Bool)
    → found ≡ Some made
    → CallClause at.caller (Completes (find_channel_plan (limits_of w) c.number.0 c.serial)) (view w p) (view w q) found
    → CallClause at.caller (Completes (close_channel_plan (limits_of w) made)) (view w q) (view w r) first
    → HasMade (board_of w p at) (board_of w r at) (ClosesChannel c)
closes_channel w p q r at c made first is found closed = record {
  calls = finds_channel c (Some made) ∷ table_call (close_channel made) first ∷ [];
  holds = channel_closed made first;
  made = made_then (finds_channel c (Some made) ∷ []) (table_call (close_channel made) first ∷ []) refl
      (made_find_channel w p q at c (Some made) is found) (made_close w q r at made first closed);
}

pub close_finds_none : {found : Option ChanId} (w : Words) (p q : Pass) (at : Station) (c : ChanId) → found ≡ None
    → CallClause at.caller (Completes (find_channel_plan (limits_of w) c.number.0 c.serial)) (view w p) (view w q) found
    → HasMade (board_of w p at) (board_of w q at) (ClosesChannel c)
close_finds_none w p q at c is found = record {
  calls = finds_channel c None ∷ [];
  holds = channel_not_found;
  made = made_find_channel w p q at c None is found;
}

-- ---- watching a channel

pub fails_to_find : {found : Option ChanId} (w : Words) (p q : Pass) (at : Station) (c : ChanId) → found ≡ None
    → CallClause at.caller (Completes (find_channel_plan (limits_of w) c.number.0 c.serial)) (view w p) (view w q)
    found
    → HasMade (board_of w p at) (board_of w q at) (FailsToFind c)
fails_to_find w p q at c is found = record {
  calls = finds_channel c None ∷ [];
  holds = found_none;
  made = made_find_channel w p q at c None is found;
}

pub finds_other : {found : Option ChanId} (w : Words) (p q : Pass) (at : Station) (c other : ChanId)
    → found ≡ Some other → other ≢ c
    → CallClause at.caller (Completes (find_channel_plan (limits_of w) c.number.0 c.serial)) (view w p) (view w q)
    found
    → HasMade (board_of w p at) (board_of w q at) (FailsToFind c)
finds_other w p q at c other is differs found = record {
  calls = finds_channel c (Some other) ∷ [];
  holds = found_other other differs;
  made = made_find_channel w p q at c (Some other) is found;
}

pub made_open : {answer : Result ChanId ChannelError} (w : Words) (p q : Pass) (at : Station) (kind : Kind)
    (reply : Result ChanId ChannelError) → answer ≡ reply
    → CallClause at.caller (Completes (open_channel_plan (limits_of w) kind)) (view w p) (view w q) answer
    → AreMade (board_of w p at) (board_of w q at) (table_call (open_channel kind) reply ∷ [])
made_open w p q at kind reply is clause =
    made_call w p q at (table_call (open_channel kind) reply) reply is (λ _ run. run) clause

pub fails_to_open : {answer : Result ChanId ChannelError} (w : Words) (p q : Pass) (at : Station) (kind : Kind)
    (c : ChanId) (refusal : ChannelError) → answer ≡ Err refusal
    → CallClause at.caller (Completes (open_channel_plan (limits_of w) kind)) (view w p) (view w q) answer
    → HasMade (board_of w p at) (board_of w q at) (FailsToOpen kind c)
fails_to_open w p q at kind c refusal is opened = record {
  calls = table_call (open_channel kind) (Err refusal) ∷ [];
  holds = open_refused refusal;
  made = made_open w p q at kind (Err refusal) is opened;
}

pub opens_other : {answer : Result ChanId ChannelError} (w : Words) (p q r : Pass) (at : Station) (kind : Kind)
    (c other : ChanId) (first : Bool) → answer ≡ Ok other → other ≢ c
    → CallClause at.caller (Completes (open_channel_plan (limits_of w) kind)) (view w p) (view w q) answer
    → CallClause at.caller (Completes (close_channel_plan (limits_of w) other)) (view w q) (view w r) first
    → HasMade (board_of w p at) (board_of w r at) (FailsToOpen kind c)
opens_other w p q r at kind c other first is differs opened closed = record {
  calls = table_call (open_channel kind) (Ok other) ∷ table_call (close_channel other) first ∷ [];
  holds = opened_other other first differs;
  made = made_then (table_call (open_channel kind) (Ok other) ∷ []) (table_call (close_channel other) first ∷ []) refl
      (made_open w p q at kind (Ok other) is opened) (made_close w q r at other first closed);
}

-- a later channel of a number

made_reopen : {answer : Result ChanId ReopenError} (w : Words) (p q : Pass) (at : Station) (before : ChanId)
    (reply : Result ChanId ReopenError) → answer ≡ reply
    → CallClause at.caller (Completes (reopen_channel_plan (limits_of w) before)) (view w p) (view w q) answer
    → AreMade (board_of w p at) (board_of w q at) (table_call (reopen_channel before) reply ∷ [])
made_reopen w p q at before reply is clause =
    made_call w p q at (table_call (reopen_channel before) reply) reply is (λ _ run. run) clause

pub made_reopens : {answer : Result ChanId ReopenError} (w : Words) (p q r : Pass) (at : Station) (before : ChanId)
    → answer ≡ Ok (after_it before)
    → AreMade (board_of w p at) (board_of w q at) (finds_channel before (Some before) ∷ [])
    → CallClause at.caller (Completes (reopen_channel_plan (limits_of w) before)) (view w q) (view w r) answer
    → AreMade (board_of w p at) (board_of w r at) (reopens before)
made_reopens w p q r at before is found reopens =
    made_then (finds_channel before (Some before) ∷ []) (table_call (reopen_channel before) (Ok (after_it before)) ∷ [])
    refl found (made_reopen w q r at before (Ok (after_it before)) is reopens)

pub fails_to_reopen : {answer : Result ChanId ReopenError} (w : Words) (p q r : Pass) (at : Station) (before : ChanId)
    (refusal : ReopenError) → answer ≡ Err refusal
    → AreMade (board_of w p at) (board_of w q at) (finds_channel before (Some before) ∷ [])
    → CallClause at.caller (Completes (reopen_channel_plan (limits_of w) before)) (view w q) (view w r) answer
    → HasMade (board_of w p at) (board_of w r at) (FailsToReopen before)
fails_to_reopen w p q r at before refusal is found reopens = record {
  calls = finds_channel before (Some before) ∷ table_call (reopen_channel before) (Err refusal) ∷ [];
  holds = reopen_refused refusal;
  made = made_then (finds_channel before (Some before) ∷ []) (table_call (reopen_channel before) (Err refusal) ∷ [])
      refl found (made_reopen w q r at before (Err refusal) is reopens);
}

pub before_isnt_found : {a b : BoardView} (before : ChanId) → HasMade a b (FailsToFind before)
    → HasMade a b (FailsToReopen before)
before_isnt_found before failed =
    made_as (FailsToFind before) (FailsToReopen before) (λ _ finds. before_unfound finds) failed

-- the channel after the one before it
pub after_before : (c : ChanId) → 1 ≤ c.serial → after_it (record { number = c.number; serial = c.serial - 1 }) ≡ c
after_before c some =
    let serial : suc (c.serial - 1) ≡ c.serial = omega arith in
    ap (λ (s : ℕ). let x : ChanId = record { number = c.number; serial = s } in x) serial

-- a channel that is taken

pub takes_opened : {A E : Type 0} (a b : BoardView) (r : Result A E) (deal : Option Deal) (kind : Kind) (c : ChanId)
    → c.serial ≡ 0 → deal ≡ None → OnOk r (AreMade a b (opens kind c ∷ [])) → OnOk r (HasMade a b (Takes kind deal c))
takes_opened a b (Ok value) deal kind c first none taken =
    subst (λ d. HasMade a b (Takes kind d c)) (sym none)
    (record { calls = opens kind c ∷ []; holds = first_opened first; made = taken })
takes_opened a b (Err error) deal kind c first none taken = tt

pub takes_found : {A E : Type 0} (a b : BoardView) (r : Result A E) (deal : Option Deal) (some : Deal) (kind : Kind)
    (c : ChanId) → c.serial ≡ 0 → deal ≡ Some some → OnOk r (AreMade a b (finds_channel c (Some c) ∷ []))
    → OnOk r (HasMade a b (Takes kind deal c))
takes_found a b (Ok value) deal some kind c first is taken =
    subst (λ d. HasMade a b (Takes kind d c)) (sym is)
    (record { calls = finds_channel c (Some c) ∷ []; holds = first_found first; made = taken })
takes_found a b (Err error) deal some kind c first is taken = tt

pub takes_reopened : {A E : Type 0} (a b : BoardView) (r : Result A E) (deal : Option Deal) (kind : Kind)
    (before c : ChanId) → after_it before ≡ c → OnOk r (AreMade a b (reopens before))
    → OnOk r (HasMade a b (Takes kind deal c))
takes_reopened a b (Ok value) deal kind before c is taken =
    subst (λ x. HasMade a b (Takes kind deal x)) is
    (record { calls = reopens before; holds = reopened before; made = taken })
takes_reopened a b (Err error) deal kind before c is taken = tt

pub take_isnt_opened : {A E : Type 0} (a b : BoardView) (r : Result A E) (deal : Option Deal) (kind : Kind)
    (c : ChanId) → c.serial ≡ 0 → deal ≡ None → OnErr r (HasMade a b (FailsToOpen kind c))
    → OnErr r (HasMade a b (FailsToTake kind deal c))
take_isnt_opened a b (Ok value) deal kind c first none failed = tt
take_isnt_opened a b (Err error) deal kind c first none failed =
    subst (λ d. HasMade a b (FailsToTake kind d c)) (sym none)
    (made_as (FailsToOpen kind c) (FailsToTake kind None c) (λ _ opens. take_unopened first opens) failed)

pub take_isnt_found : {A E : Type 0} (a b : BoardView) (r : Result A E) (deal : Option Deal) (some : Deal)
    (kind : Kind) (c : ChanId) → c.serial ≡ 0 → deal ≡ Some some → OnErr r (HasMade a b (FailsToFind c))
    → OnErr r (HasMade a b (FailsToTake kind deal c))
take_isnt_found a b (Ok value) deal some kind c first is failed = tt
take_isnt_found a b (Err error) deal some kind c first is failed =
    subst (λ d. HasMade a b (FailsToTake kind d c)) (sym is)
    (made_as (FailsToFind c) (FailsToTake kind (Some some) c) (λ _ finds. take_unfound first finds) failed)

pub take_isnt_reopened : {A E : Type 0} (a b : BoardView) (r : Result A E) (deal : Option Deal) (kind : Kind)
    (before c : ChanId) → after_it before ≡ c → OnErr r (HasMade a b (FailsToReopen before))
    → OnErr r (HasMade a b (FailsToTake kind deal c))
take_isnt_reopened a b (Ok value) deal kind before c is failed = tt
take_isnt_reopened a b (Err error) deal kind before c is failed =
    subst (λ x. HasMade a b (FailsToTake kind deal x)) is
    (made_as (FailsToReopen before) (FailsToTake kind deal (after_it before))
    (λ _ reopens. take_unreopened before reopens) failed)

-- the refusal, and that there is none
pub refusal_of : {A E : Type 0} (r : Result A E) → is_err r ≡ true → (e : E) × (r ≡ Err e)
refusal_of (Ok value) failed = absurd (cc)
refusal_of (Err error) failed = (error, refl)

-- channels whose numbers or serials differ are other ones
pub is_other : (c d : ChanId) → ((c.number.0 == d.number.0) && (c.serial == d.serial)) ≡ false → c ≢ d
is_other c d test same =
    let number : (c.number.0 == d.number.0) ≡ true = eq-eqb c.number.0 d.number.0
    (ap (λ (x : ChanId). x.number.0) same)
    in
    let serial : (c.serial == d.serial) ≡ true = eq-eqb c.serial d.serial (ap (λ (x : ChanId). x.serial) same) in
    absurd (false≢true (sym test ∙ (ap (λ (b : Bool). b && (c.serial == d.serial)) number ∙ serial)))

pub on_err_any : {T E P : Type 0} (r : Result T E) → P → OnErr r P
on_err_any (Ok value) p = tt
on_err_any (Err error) p = p

pub done_of : {E : Type 0} (r : Result (Unit {0}) E) → is_err r ≡ false → r ≡ Ok tt
done_of (Ok value) over = refl
done_of (Err error) over = absurd (cc)

made_unblocked : {answer : Result (Unit {0}) ChannelError} (w : Words) (p q : Pass) (at : Station) (c : ChanId)
    (reply : Result (Unit {0}) ChannelError) → answer ≡ reply
    → CallClause at.caller (SetsBlocking (limits_of w) c false) (view w p) (view w q) answer
    → AreMade (board_of w p at) (board_of w q at) (waiting_call (set_blocking c false) reply ∷ [])
made_unblocked w p q at c reply is clause =
    made_call w p q at (waiting_call (set_blocking c false) reply) reply is (λ _ run. run) clause

pub made_registration : {answer : Result KeyNo ChannelError} (w : Words) (p q : Pass) (at : Station) (s : SelNo)
    (c : ChanId) (ops : ℕ) (reply : Result KeyNo ChannelError) → s ≡ at.selector.number → answer ≡ reply
    → CallClause at.caller (Registers (limits_of w) s c ops 0) (view w p) (view w q) answer
    → AreMade (board_of w p at) (board_of w q at) (waiting_call (register at.selector.number c ops 0) reply ∷ [])
made_registration w p q at s c ops reply its is clause =
    made_call w p q at (waiting_call (register at.selector.number c ops 0) reply) reply is
    (λ acts run. subst (λ (x : SelNo). Registers (limits_of w) x c ops 0 acts reply) its run) clause

pub fails_to_register : {answer : Result KeyNo ChannelError} (w : Words) (p q r : Pass) (at : Station) (s : SelNo)
    (own : ChanId) (ops : ℕ) (refusal : ChannelError) (first : Bool) → s ≡ at.selector.number → answer ≡ Err refusal
    → CallClause at.caller (Registers (limits_of w) s own ops 0) (view w p) (view w q) answer
    → CallClause at.caller (Completes (close_channel_plan (limits_of w) own)) (view w q) (view w r) first
    → HasMade (board_of w p at) (board_of w r at) (FailsToRegister at.selector.number own ops)
fails_to_register w p q r at s own ops refusal first its is registered closed = record {
  calls = waiting_call (register at.selector.number own ops 0) (Err refusal)
      ∷ table_call (close_channel own) first ∷ [];
  holds = register_refused refusal first;
  made = made_then (waiting_call (register at.selector.number own ops 0) (Err refusal) ∷ [])
      (table_call (close_channel own) first ∷ []) refl (made_registration w p q at s own ops (Err refusal) its is registered)
      (made_close w q r at own first closed);
}

pub watches_channel : {answer : Result (Unit {0}) ChannelError} (w : Words) (p q r t : Pass) (at : Station)
    (kind : Kind) (own : ChanId) (ops : ℕ) (k : KeyNo) → answer ≡ Ok tt
    → HasMade (board_of w p at) (board_of w q at) (Takes kind at.deal own)
    → CallClause at.caller (SetsBlocking (limits_of w) own false) (view w q) (view w r) answer
    → AreMade (board_of w r at) (board_of w t at) (registers at.selector.number own ops k ∷ [])
    → HasMade (board_of w p at) (board_of w t at) (WatchesChannel at.deal at.selector.number kind own ops k)
watches_channel w p q r t at kind own ops k is taken unblocked registered = record {
  calls = taken.calls
      ++ waiting_call (set_blocking own false) (Ok tt) ∷ registers at.selector.number own ops k ∷ [];
  holds = channel_watched taken.holds;
  made = made_then taken.calls
      (waiting_call (set_blocking own false) (Ok tt) ∷ registers at.selector.number own ops k ∷ []) refl taken.made
      (made_then (waiting_call (set_blocking own false) (Ok tt) ∷ []) (registers at.selector.number own ops k ∷ [])
      refl (made_unblocked w q r at own (Ok tt) is unblocked) registered);
}

pub watch_stays_blocking : {answer : Result (Unit {0}) ChannelError} (w : Words) (p q r t : Pass) (at : Station)
    (kind : Kind) (own : ChanId) (ops : ℕ) (first : Bool) → is_err answer ≡ true
    → HasMade (board_of w p at) (board_of w q at) (Takes kind at.deal own)
    → CallClause at.caller (SetsBlocking (limits_of w) own false) (view w q) (view w r) answer
    → CallClause at.caller (Completes (close_channel_plan (limits_of w) own)) (view w r) (view w t) first
    → HasMade (board_of w p at) (board_of w t at) (FailsToWatch at.deal at.selector.number kind own ops)
watch_stays_blocking {answer} w p q r t at kind own ops first failed taken unblocked closed =
    let refused = refusal_of answer failed in
    record {
      calls = taken.calls
          ++ waiting_call (set_blocking own false) (Err refused.0) ∷ table_call (close_channel own) first ∷ [];
      holds = watch_still_blocking refused.0 first taken.holds;
      made = made_then taken.calls
          (waiting_call (set_blocking own false) (Err refused.0) ∷ table_call (close_channel own) first ∷ []) refl
          taken.made
          (made_then (waiting_call (set_blocking own false) (Err refused.0) ∷ [])
          (table_call (close_channel own) first ∷ []) refl
          (made_unblocked w q r at own (Err refused.0) refused.1 unblocked)
          (made_close w r t at own first closed));
    }

pub watch_isnt_registered : {answer : Result (Unit {0}) ChannelError} (w : Words) (p q r t : Pass) (at : Station)
    (kind : Kind) (own : ChanId) (ops : ℕ) → answer ≡ Ok tt
    → HasMade (board_of w p at) (board_of w q at) (Takes kind at.deal own)
    → CallClause at.caller (SetsBlocking (limits_of w) own false) (view w q) (view w r) answer
    → HasMade (board_of w r at) (board_of w t at) (FailsToRegister at.selector.number own ops)
    → HasMade (board_of w p at) (board_of w t at) (FailsToWatch at.deal at.selector.number kind own ops)
watch_isnt_registered w p q r t at kind own ops is taken unblocked failed = record {
  calls = taken.calls ++ waiting_call (set_blocking own false) (Ok tt) ∷ failed.calls;
  holds = watch_not_registered taken.holds failed.holds;
  made = made_then taken.calls (waiting_call (set_blocking own false) (Ok tt) ∷ failed.calls) refl taken.made
      (made_then (waiting_call (set_blocking own false) (Ok tt) ∷ []) failed.calls refl
      (made_unblocked w q r at own (Ok tt) is unblocked) failed.made);
}

pub watch_isnt_taken : {a b : BoardView} (deal : Option Deal) (s : SelNo) (kind : Kind) (c : ChanId) (ops : ℕ)
    → HasMade a b (FailsToTake kind deal c) → HasMade a b (FailsToWatch deal s kind c ops)
watch_isnt_taken deal s kind c ops failed =
    made_as (FailsToTake kind deal c) (FailsToWatch deal s kind c ops) (λ _ takes. watch_not_taken takes) failed

-- ---- selections

-- the station may have its selector in another state then
made_with : {a : BoardView} {Holds : List Made → Type 0} {w : Words} {q : Pass} {at : Station} (now : HeldSelector)
    → HasMade a (board_of w q at) Holds → HasMade a (board_of w q (with_selector at now)) Holds
made_with now made = record {
  calls = made.calls;
  holds = made.holds;
  made = record { acts = made.made.acts; own = made.made.own; runs = made.made.runs };
}

pub begins_selection : {answer : Result Selection BeginError} (w : Words) (p q : Pass) (at : Station)
    (now : HeldSelector) (selection : Selection) → answer ≡ Ok selection
    → CallClause at.caller (Begins at.selector.number Wait (known_by at.selector)) (view w p) (view w q) answer
    → HasMade (board_of w p at) (board_of w q (with_selector at now)) (BeginsSelection at.selector selection)
begins_selection w p q at now selection is clause =
    let call = table_call (try_begin at.selector.number Wait (known_by at.selector)) (Ok selection) in
    made_with now (record {
      calls = call ∷ [];
      holds = selection_begun;
      made = made_call w p q at call (Ok selection) is (λ _ run. run) clause;
    })

pub begin_is_refused : {answer : Result Selection BeginError} (w : Words) (p q : Pass) (at : Station)
    (now : HeldSelector) (refusal : BeginError) → answer ≡ Err refusal
    → CallClause at.caller (Begins at.selector.number Wait (known_by at.selector)) (view w p) (view w q) answer
    → HasMade (board_of w p at) (board_of w q (with_selector at now)) (FailsToBegin at.selector)
begin_is_refused w p q at now refusal is clause =
    let call = table_call (try_begin at.selector.number Wait (known_by at.selector)) (Err refusal) in
    made_with now (record {
      calls = call ∷ [];
      holds = begin_refused refusal;
      made = made_call w p q at call (Err refusal) is (λ _ run. run) clause;
    })

made_leave : {answer : Unit {0}} (w : Words) (p q : Pass) (at : Station) (selection : Selection)
    → CallClause at.caller (Completes (leave_plan selection)) (view w p) (view w q) answer
    → AreMade (board_of w p at) (board_of w q at) (table_call (leave selection) tt ∷ [])
made_leave w p q at selection clause =
    made_call w p q at (table_call (leave selection) tt) tt refl (λ _ run. run) clause

pub leaves_selection : {answer : Unit {0}} (w : Words) (p q : Pass) (at : Station) (now : HeldSelector)
    (selection : Selection) → CallClause at.caller (Completes (leave_plan selection)) (view w p) (view w q) answer
    → HasMade (board_of w p at) (board_of w q (with_selector at now)) (LeavesSelection selection)
leaves_selection w p q at now selection clause = made_with now (record {
  calls = table_call (leave selection) tt ∷ [];
  holds = selection_left;
  made = made_leave w p q at selection clause;
})

made_told : {answer : ToldReply} (w : Words) (p q : Pass) (at : Station) (selection : Selection) (poll : Poll)
    (reply : ToldReply) → answer ≡ reply
    → CallClause at.caller (Tells selection poll) (view w p) (view w q) answer
    → AreMade (board_of w p at) (board_of w q at) (table_call (told selection poll) reply ∷ [])
made_told w p q at selection poll reply is clause =
    made_call w p q at (table_call (told selection poll) reply) reply is (λ _ run. run) clause

pub tells_and_ends : {answer : ToldReply} (w : Words) (p q : Pass) (at : Station) (now : HeldSelector)
    (selection : Selection) (poll : Poll) (selected : Selected) → answer ≡ done selected
    → CallClause at.caller (Tells selection poll) (view w p) (view w q) answer
    → HasMade (board_of w p at) (board_of w q (with_selector at now)) (TellsPoll selection poll)
tells_and_ends w p q at now selection poll selected is clause = made_with now (record {
  calls = table_call (told selection poll) (done selected) ∷ [];
  holds = selection_over selected;
  made = made_told w p q at selection poll (done selected) is clause;
})

pub tells_and_leaves : {answer : ToldReply} {c : BoardView} (w : Words) (p q : Pass) (at : Station)
    (selection : Selection) (poll : Poll) (next : Selection) → answer ≡ again next
    → CallClause at.caller (Tells selection poll) (view w p) (view w q) answer
    → HasMade (board_of w q at) c (LeavesSelection next) → HasMade (board_of w p at) c (TellsPoll selection poll)
tells_and_leaves w p q at selection poll next is clause left = record {
  calls = table_call (told selection poll) (again next) ∷ left.calls;
  holds = then_left next left.calls left.holds;
  made = made_then (table_call (told selection poll) (again next) ∷ []) left.calls refl
      (made_told w p q at selection poll (again next) is clause) left.made;
}
  where
    then_left : (x : Selection) (calls : List Made) → LeavesSelection x calls
        → TellsPoll selection poll (table_call (told selection poll) (again x) ∷ calls)
    then_left x calls selection_left = selection_again x

pub begun_and_told : {a b c : BoardView} (s : HeldSelector) (selection : Selection) (poll : Poll) → b.words ≡ a.words
    → HasMade a b (BeginsSelection s selection) → HasMade b c (TellsPoll selection poll)
    → HasMade a c (SelectsBy s selection poll)
begun_and_told s selection poll words begun tells =
    made_both (BeginsSelection s selection) (TellsPoll selection poll) words begun tells

pub begun_and_left : {a b c : BoardView} (s : HeldSelector) (selection : Selection) → b.words ≡ a.words
    → HasMade a b (BeginsSelection s selection) → HasMade b c (LeavesSelection selection)
    → HasMade a c (BeginsAndLeaves s selection)
begun_and_left s selection words begun left =
    made_both (BeginsSelection s selection) (LeavesSelection selection) words begun left
