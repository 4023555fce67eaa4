-- What a caller has in progress between its calls, and how a call changes it.
use Rattle.std.specs.Prelude.{ℕ, Bool, true, false, if◌then◌else◌, Option, Some, None, Result, Ok, Err, List, []}
use Rattle.nio_base.specs.declared.numbers.SelNo.{SelNo}
use Rattle.nio_history.specs.State.{put}
use Rattle.nio_steps.specs.SelectCalls.{Selection, ToldReply, done, again, ShutReply, closing, already_closed}
use Rattle.nio_steps.specs.SelectCalls.{FinishReply, closed, busy}
use Rattle.nio_steps.specs.declared.looked.LookedKey.{LookedKey}
use Rattle.nio_steps.specs.declared.refusal.BeginError.{BeginError}

pub record Ongoing : Type 0 where
  -- its selection on a selector: that of its latest `try_begin` there, where that answered Ok and the selection
  -- wasn't left and isn't over
  pub selection : ℕ → Option Selection
  -- whether it shut the selector and hasn't finished closing it
  pub closes : ℕ → Bool
  -- the selector's list, where it has that: empty when it took it, and then what its latest selection with it looked at
  pub list : ℕ → Option (List LookedKey)

abbrev pub nothing_ongoing : Ongoing
nothing_ongoing = record { selection = λ _. None; closes = λ _. false; list = λ _. None }

abbrev pub selecting : Ongoing → SelNo → Option Selection → Ongoing
selecting now s x = record now { selection = put now.selection s.0 x }

abbrev pub closes_on : Ongoing → SelNo → Bool → Ongoing
closes_on now s x = record now { closes = put now.closes s.0 x }

abbrev pub listing : Ongoing → SelNo → List LookedKey → Ongoing
listing now s known = record now { list = put now.list s.0 (Some known) }

-- a selection that goes by the list takes it on
abbrev pub begun_by : Ongoing → SelNo → Selection → Ongoing
begun_by now s x = record now {
  selection = put now.selection s.0 (Some x);
  list = if x.listed then put now.list s.0 (Some x.looked) else now.list;
}

-- ---- what a call changes

pub data Change : Type 0 where
  no_change : Change
  selection_begins : SelNo → Selection → Change
  -- with the selection that a `told` answered
  selection_goes_on : SelNo → Selection → Change
  selection_ends : SelNo → Change
  -- a whole selection, whose beginning answered this, is over
  selection_made : SelNo → Selection → Change
  closing_begins : SelNo → Change
  closing_ends : SelNo → Change
  list_taken : SelNo → Change

abbrev pub changed : Ongoing → Change → Ongoing
changed now no_change = now
changed now (selection_begins s x) = begun_by now s x
changed now (selection_goes_on s x) = selecting now s (Some x)
changed now (selection_ends s) = selecting now s None
changed now (selection_made s x) = selecting (begun_by now s x) s None
changed now (closing_begins s) = closes_on now s true
changed now (closing_ends s) = closes_on now s false
changed now (list_taken s) = listing now s []

-- by the reply of each call that changes anything

abbrev pub begin_change : SelNo → Result Selection BeginError → Change
begin_change s (Ok selection) = selection_begins s selection
begin_change s (Err refusal) = no_change

abbrev pub take_list_change : SelNo → Bool → Change
take_list_change s true = list_taken s
take_list_change s false = no_change

abbrev pub told_change : SelNo → ToldReply → Change
told_change s (done answer) = selection_ends s
told_change s (again next) = selection_goes_on s next

abbrev pub shut_change : SelNo → ShutReply → Change
shut_change s closing = closing_begins s
shut_change s already_closed = no_change

abbrev pub finish_change : SelNo → FinishReply → Change
finish_change s closed = closing_ends s
finish_change s busy = no_change

abbrev pub select_change : SelNo → Result Selection BeginError → Change
select_change s (Ok selection) = selection_made s selection
select_change s (Err refusal) = no_change

abbrev pub close_change : SelNo → Bool → Change
close_change s true = closing_ends s
close_change s false = no_change
