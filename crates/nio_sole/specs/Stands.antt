-- What a desk has in progress, and what holds of a desk between two lines.
use Rattle.std.specs.Prelude.{◌≡◌, ℕ, ◌<◌, IsFalse, Option, Some, None, option_map, All, List, map, vec_len}
use Rattle.nio_steps.specs.SelectCalls.{Selection}
use Rattle.std.specs.List.{slice_index_or}
use Rattle.nio_base.specs.Limits.{IsFit}
use Rattle.nio_base.specs.declared.numbers.CallerNo.{CallerNo}
use Rattle.nio_group.specs.Group.{Group, empty_group}
use Rattle.nio_history.specs.PassViews.{PassView}
use Rattle.nio_pipe.specs.Calls.{HasEnds}
use Rattle.nio_pipe.specs.Pipe.{waiting}
use Rattle.nio_plain.specs.ScriptState.{Pipe, group_limits}
use Rattle.nio_select.specs.InHand.{selection_of}
use Rattle.nio_serial.specs.Between.{IsBetween}
use Rattle.nio_serial.specs.Documented.{Progress, Selecting}
use Rattle.nio_sole.specs.Made.{HasMade}
use Rattle.nio_sole.specs.declared.desk.Begun.{Begun}
use Rattle.nio_sole.specs.declared.desk.Desk.{Desk}
use Rattle.nio_sole.specs.declared.desk.OwnedPipe.{OwnedPipe}
use Rattle.nio_sole.specs.declared.desk.Shut.{Shut}
use Rattle.nio_words.specs.Passes.{IsReady, limits_of, state_seen, acts_seen}
use Rattle.nio_words.specs.Views.{view}
use Rattle.nio_words.specs.declared.words.Words.{Words}

-- what stands at a place: nothing past the end
abbrev pub slot : {A : Type 0} → List (Option A) → ℕ → Option A
slot xs n = slice_index_or xs n None

abbrev pub selecting_of : Begun → Selecting
selecting_of x = record { caller = x.caller; selection = selection_of x.selection }

abbrev pub selections_of : List (Option Begun) → ℕ → Option Selecting
selections_of selections s = option_map selecting_of (slot selections s)

abbrev pub closings_of : List (Option Shut) → ℕ → Option CallerNo
closings_of closings s = option_map (λ x. x.caller) (slot closings s)

-- the group is made at the first call on it: before, it shows as one on which nothing was done
abbrev pub group_of : Option Group → Group
group_of None = empty_group group_limits
group_of (Some group) = group

-- a pipe as a script sees it: of the bytes, those that wait
abbrev pub pipe_of : OwnedPipe → Pipe
pipe_of x = record {
  source = x.pipe.source;
  sink = x.pipe.sink;
  reader = x.reader;
  writer = x.writer;
  waiting = waiting x.pipe;
  sealed = x.pipe.sealed;
}

abbrev pub pipes_of : List OwnedPipe → List Pipe
pipes_of pipes = map pipe_of pipes

-- what the desk has in progress, by the selector's number; its group, and its pipes
abbrev pub progress_of : Desk → Progress
progress_of d = record {
  selection = selections_of d.selections.items;
  closing = closings_of d.closings.items;
  group = group_of d.group;
  pipes = pipes_of d.pipes.items;
}

-- both channels of each pipe are made
abbrev pub AreMade : PassView → List OwnedPipe → Type 0
AreMade pass pipes = All (λ x. HasEnds pass x.pipe.source x.pipe.sink) pipes

-- the selection is on selector s, and without the list
abbrev pub IsOn : ℕ → Selection → Type 0
IsOn s x = (x.selector.0 ≡ s) × IsFalse x.listed

-- There is a place for each selector, and what stands there is in progress on that selector. The channels of the pipes
-- are made.
pub record HasPlaces (w : Words) (d : Desk) : Type 0 where
  pub selections : vec_len d.selections ≡ (limits_of w).selectors
  pub closings : vec_len d.closings ≡ (limits_of w).selectors
  pub selects : (s : ℕ) (x : Begun) → slot d.selections.items s ≡ Some x → IsOn s (selection_of x.selection)
  pub closes : (s : ℕ) (x : Shut) → slot d.closings.items s ≡ Some x → x.closing.0 ≡ s
  pub pipes : AreMade (view w d.pass) d.pipes.items

-- Between two lines. The desk's pass acts for each caller, so that nothing happens but by it; no call is at work; each
-- caller made whole calls, and has in progress what the desk shows.
pub record Stands (w : Words) (d : Desk) : Type 0 where
  pub fit : IsFit (limits_of w)
  pub ready : (n : CallerNo) → n.0 < (limits_of w).callers → IsReady w d.pass n
  pub places : HasPlaces w d
  pub between : ∥ IsBetween (limits_of w) (state_seen d.pass) (progress_of d) ∥₁
  pub made : ∥ ((n : CallerNo) → HasMade (limits_of w) (acts_seen d.pass n) n (progress_of d)) ∥₁
