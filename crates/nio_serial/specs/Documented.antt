-- From the table to the documented system: what a state of the table, with the selections in progress, is as a
-- state of a script; and what a performed plan comes to there.
use Rattle.std.specs.Prelude.{ℕ, false, not, ◌&&◌, Option, None, option_map, List, [], map}
use Rattle.nio_base.specs.declared.numbers.CallerNo.{CallerNo}
use Rattle.nio_base.specs.declared.numbers.KeyId.{KeyId}
use Rattle.nio_group.specs.Group.{Group, empty_group}
use Rattle.nio_history.specs.State.{State}
use Rattle.nio_history.specs.declared.found.Mark.{Mark}
use Rattle.nio_history.specs.declared.found.Stage.{Stage}
use Rattle.nio_language.specs.declared.reply.Reply.{Reply}
use Rattle.nio_plain.specs.ScriptState.{Pipe, ScriptState, Selection as ScriptSelection, group_limits}
use Rattle.nio_plain.specs.Seq.Replies.{Replied}
use Rattle.nio_steps.specs.Perform.{Performed}
use Rattle.nio_steps.specs.SelectCalls.{Selection}
use Rattle.nio_steps.specs.declared.looked.LookedKey.{LookedKey}

-- ---- what is in progress

-- a selection in progress, and who selects
pub record Selecting : Type 0 where
  pub caller : CallerNo
  pub selection : Selection

-- What is in progress between two calls. It stands in no word of the table: who makes the calls keeps it.
pub record Progress : Type 0 where
  -- by the selector: the selection, and the caller that closes the selector and hasn't finished
  pub selection : ℕ → Option Selecting
  pub closing : ℕ → Option CallerNo
  -- the group of asynchronous channels
  pub group : Group
  -- the pipes, with the bytes that wait in them, in the order in which they were made
  pub pipes : List Pipe

abbrev pub nothing_yet : Progress
nothing_yet = record {
  selection = λ _. None;
  closing = λ _. None;
  group = empty_group group_limits;
  pipes = [];
}

-- ---- the documented state

-- a removed key counts as neither cancelled nor selected
abbrev pub settled : Stage → Stage
settled k = record k { cancelled = not k.removed && k.cancelled }

abbrev pub settled_mark : Stage → Mark → Mark
settled_mark k m = record m { selected = not k.removed && m.selected }

-- Scripts don't tell apart who is drawn, which indexes are touched, who has a list, nor whether a removed key was
-- cancelled or selected. Everything else is as it stands in the table.
abbrev pub settled_state : State → State
settled_state st = record st {
  drawn = λ _. false;
  touched = λ _ _. false;
  lister = λ _. None;
  key = λ s i. settled (st.key s i);
  mark = λ s i. settled_mark (st.key s i) (st.mark s i);
}

-- a looked key by its name, with its interest
abbrev pub looked_pair : LookedKey → KeyId × ℕ
looked_pair entry = (record { index = entry.index; serial = entry.serial }, entry.interest)

-- a selection as a script sees it, with the selector's list or without it
abbrev pub shown : Selection → ScriptSelection
shown x = record { mode = x.mode; bound = x.bound; looked = map looked_pair x.looked }

abbrev pub documented : State → Progress → ScriptState
documented st now = record {
  shared = settled_state st;
  selection = λ s. option_map (λ x. shown x.selection) (now.selection s);
  group = now.group;
  pipes = now.pipes;
}

-- ---- what a performed plan comes to

-- by the reply to what the plan answers, and by what is in progress after it
abbrev pub amounts : {R : Type 0} → (R → Reply) → (R → Progress) → Performed R → Replied
amounts said left done = record { reply = said done.answer; left = documented done.state (left done.answer) }
