-- The state that a judge has, read from its tables.
use Rattle.std.specs.Prelude.{ℕ, Bool}
use Rattle.nio_audit.specs.TableWords.{row, grid, cube}
use Rattle.nio_audit.specs.declared.state.StateTables.{StateTables}
use Rattle.nio_base.specs.declared.numbers.CallerNo.{CallerNo}
use Rattle.nio_history.specs.Acts.{effect}
use Rattle.nio_history.specs.State.{State}
use Rattle.nio_history.specs.declared.act.Act.{Act}

-- the state with these parts, where selections have these indexes still to put
abbrev pub state_with : StateTables → (ℕ → ℕ → Bool) → State
state_with t due = record {
  drawn = row t.drawn;
  interrupted = row t.interrupted;
  selector = row t.selector;
  channels_high = t.channels_high;
  chan = row t.chan;
  hold = row t.hold;
  enrolled = grid t.enrolled;
  gate = row t.gate;
  turn = row t.turn;
  keys_high = row t.keys_high;
  key = grid t.key;
  interest = grid t.interest;
  mark = grid t.mark;
  note = grid t.note;
  pinned = cube t.pinned;
  free = grid t.free;
  touched = grid t.touched;
  lister = row t.lister;
  begun = row t.begun;
  closer = row t.closer;
  entered = row t.entered;
  taker = grid t.taker;
  put_due = due;
  amid = cube t.amid;
}

-- which indexes selections have still to put after an act
abbrev pub due_after : StateTables → (ℕ → ℕ → Bool) → CallerNo → Act → ℕ → ℕ → Bool
due_after t due me act = (effect (state_with t due) me act).put_due
