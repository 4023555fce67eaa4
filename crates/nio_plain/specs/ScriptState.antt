-- What a script's system holds: the shared state of selectors, keys and channels, the selections in progress,
-- a group of asynchronous channels, and pipes.
--
-- A state of a script counts no caller as drawn and no index as touched, gives nobody a selector's list, and counts a
-- removed key as neither cancelled nor selected: no call of a script tells these apart. Between its calls nobody has a
-- pin, is amid a change of an index or uses one.
use Rattle.std.specs.Prelude.{ℕ, ◌^◌, Bool, List, [], Option, None}
use Rattle.nio_base.specs.declared.numbers.CallerNo.{CallerNo}
use Rattle.nio_base.specs.declared.numbers.ChanId.{ChanId}
use Rattle.nio_base.specs.declared.numbers.KeyId.{KeyId}
use Rattle.nio_group.specs.Group.{Group, empty_group}
use Rattle.nio_group.specs.declared.limits.GroupLimits.{GroupLimits}
use Rattle.nio_history.specs.State.{State, opening, put}
use Rattle.nio_history.specs.declared.found.Mode.{Mode}

-- a selection in progress: how long it waits, the number of indexes that were claimed when it began,
-- and the keys that it looked at with the interest that each had then. Its caller has the selector's turn
pub record Selection : Type 0 where
  pub mode : Mode
  pub bound : ℕ
  pub looked : List (KeyId × ℕ)

-- a pipe: its channels, the callers that own them, the bytes that wait in it, the first to be read first, and
-- whether its sink has left the seal
pub record Pipe : Type 0 where
  pub source : ChanId
  pub sink : ChanId
  pub reader : CallerNo
  pub writer : CallerNo
  pub waiting : List ℕ
  pub sealed : Bool

pub record ScriptState : Type 0 where
  pub shared : State
  -- by the selector's number
  pub selection : ℕ → Option Selection
  pub group : Group
  -- in the order in which they were made
  pub pipes : List Pipe

-- how many channels a script's group makes, how many operations it has in flight, and how many it accepts
abbrev pub group_limits : GroupLimits
group_limits = record { channels = 1024; flight = 4096; ops = 2 ^ 62 }

-- the state in which a script begins
abbrev pub script_opening : ScriptState
script_opening = record { shared = opening; selection = λ _. None; group = empty_group group_limits; pipes = [] }

-- the setters

abbrev pub with_shared : ScriptState → State → ScriptState
with_shared st x = record st { shared = x }

abbrev pub with_selection : ScriptState → ℕ → Option Selection → ScriptState
with_selection st s x = record st { selection = put st.selection s x }

abbrev pub with_group : ScriptState → Group → ScriptState
with_group st x = record st { group = x }

abbrev pub with_pipes : ScriptState → List Pipe → ScriptState
with_pipes st x = record st { pipes = x }
