-- What contracts say of a table and its passes.
use Rattle.std.specs.Prelude.{◌≡◌, ℕ, IsTrue, List, []}
use Rattle.nio_base.specs.declared.limits.Limits.{Limits}
use Rattle.nio_base.specs.declared.numbers.CallerNo.{CallerNo}
use Rattle.nio_history.specs.Conditions.{IsCaller}
use Rattle.nio_history.specs.Histories.{state_after, mine, IsLegal}
use Rattle.nio_history.specs.State.{State}
use Rattle.nio_history.specs.declared.act.Act.{Act}
use Rattle.nio_history.specs.declared.event.Event.{Event}
use Rattle.nio_words.specs.Rule.{HasBit}
use Rattle.nio_words.specs.declared.view.View.{View}
use Rattle.nio_words.specs.declared.words.Pass.{Pass}
use Rattle.nio_words.specs.declared.words.Words.{Words}

abbrev pub view_of : Pass → View
view_of p = p.seat.me.0

-- the history as far as the pass has seen it
abbrev pub seen : Pass → List Event
seen p = (view_of p).seen

-- and the state that it leaves
abbrev pub state_seen : Pass → State
state_seen p = state_after (seen p)

-- and what a caller did in it
abbrev pub acts_seen : Pass → CallerNo → List Act
acts_seen p n = mine n (seen p)

-- the numbers that it holds, one bit each
abbrev pub numbers_of : Pass → ℕ
numbers_of p = (view_of p).numbers

-- the pass holds the number
abbrev pub Holds : Pass → CallerNo → Type 0
Holds p n = HasBit (numbers_of p) n.0

-- two passes hold the same numbers
abbrev pub HoldSame : Pass → Pass → Type 0
HoldSame p q = numbers_of q ≡ numbers_of p

-- it is the table's only pass
abbrev pub IsOnly : Pass → Type 0
IsOnly p = IsTrue (view_of p).alone

-- the limits of the table
abbrev pub limits_of : Words → Limits
limits_of w = w.limits

-- it is a pass of this table; what it has seen is a legal history, and the numbers that it holds are
-- below the limit
pub record IsPassOf (w : Words) (p : Pass) : Type 0 where
  pub table : p.seat.table_id ≡ w.table.shared.table_id
  pub limits : (view_of p).limits ≡ w.limits
  pub legal : IsLegal w.limits (seen p)
  pub callers : (n : CallerNo) → Holds p n → IsCaller w.limits n

-- it is a pass of this table, and holds the number of the caller
pub record IsReady (w : Words) (p : Pass) (me : CallerNo) : Type 0 where
  pub pass : IsPassOf w p
  pub number : Holds p me

-- the table's first pass: it has seen nothing, holds no number, and is the only one
pub record IsFirstPass (w : Words) (p : Pass) : Type 0 where
  pub pass : IsPassOf w p
  pub unseen : seen p ≡ []
  pub empty : (n : CallerNo) → Holds p n → ⊥
  pub only : IsOnly p
