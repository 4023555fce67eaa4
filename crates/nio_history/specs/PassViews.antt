-- What contracts see of a caller's pass, whatever the table is; and what is passed to a call beside it.
use Rattle.std.specs.Prelude.{◌≡◌, ℕ, Bool, IsTrue, IsFalse, List, ◌++◌, map, length, drop}
use Rattle.nio_base.specs.declared.limits.Limits.{Limits}
use Rattle.nio_base.specs.declared.numbers.CallerNo.{CallerNo}
use Rattle.nio_base.specs.declared.numbers.KeyNo.{KeyNo}
use Rattle.nio_base.specs.declared.numbers.SelNo.{SelNo}
use Rattle.nio_history.specs.Conditions.{IsSelector, IsChannel, IsKey, has_pin}
use Rattle.nio_history.specs.Histories.{state_after, mine, event_of, HistoryClause}
use Rattle.nio_history.specs.Sets.{was_published}
use Rattle.nio_history.specs.State.{State}
use Rattle.nio_history.specs.declared.act.Act.{Act}
use Rattle.nio_history.specs.declared.event.Event.{Event}
use Rattle.nio_base.specs.declared.numbers.ChanId.{ChanId}
use Rattle.nio_history.specs.Sets.{was_opened}

pub record PassView : Type 0 where
  -- the limits of its table
  pub limits : Limits
  -- the history as far as it was seen
  pub seen : List Event
  -- the callers' numbers that it holds
  pub held : CallerNo → Bool
  -- whether it is the table's only pass
  pub only : Bool

-- the state that this history leaves
abbrev pub known : PassView → State
known pass = state_after pass.seen

abbrev pub Holds : PassView → CallerNo → Type 0
Holds pass n = IsTrue (pass.held n)

-- what `me` did between two moments of a pass
abbrev pub done_between : CallerNo → PassView → PassView → List Act
done_between me old new = drop (length (mine me old.seen)) (mine me new.seen)

-- What `me` did with a pass: what it has seen went on, `me` has these acts more, and no other number that
-- the pass holds has any; it holds the same numbers. The table's only pass stays so, and nothing but these
-- acts happened.
pub record ActsClause (me : CallerNo) (acts : List Act) (old new : PassView) : Type 0 where
  pub history : HistoryClause old.limits (Holds old) me acts old.seen new.seen
  pub limits : new.limits ≡ old.limits
  pub held : new.held ≡ old.held
  pub only : IsTrue old.only → IsTrue new.only × (new.seen ≡ old.seen ++ map (event_of me) acts)

-- ---- what is passed to a call: its numbers are below the table's limits, and its making stands in
-- what the pass has seen

pub record HasSelector (pass : PassView) (s : SelNo) : Type 0 where
  pub inside : IsSelector pass.limits s
  pub made : IsTrue ((known pass).selector s.0)

-- a channel that was opened, whether its number has it still or was given to another one
pub record HasChannel (pass : PassView) (c : ChanId) : Type 0 where
  pub inside : IsChannel pass.limits c.number
  pub opened : IsTrue (was_opened ((known pass).chan c.number.0) c.serial)

-- a key that was published, whether its index has it still or was given to another key
pub record HasKey (pass : PassView) (k : KeyNo) : Type 0 where
  pub inside : IsKey pass.limits k.sel k.index
  pub published : IsTrue (was_published ((known pass).key k.sel.0 k.index) k.serial)

-- the caller has no pin on any index: a call that pins one asks for this, and leaves it so
abbrev pub HasNoPin : PassView → CallerNo → Type 0
HasNoPin pass me = (s : SelNo) (i : ℕ) → IsFalse (has_pin (known pass) me s i)
