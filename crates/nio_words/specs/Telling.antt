-- What an atomic step tells the seat that makes it, whatever the table was at that moment.
use Rattle.std.specs.Prelude.{◌≡◌, ℕ, Bool, true, false, List, [], ◌∷◌, ◌++◌, All, bit_or}
use mathlib.Core.List.{IsPrefix}
use mathlib.Core.Option.{none}
use Rattle.atomic_table.specs.Table.{Step, step}
use Rattle.nio_base.specs.declared.numbers.CallerNo.{CallerNo}
use Rattle.nio_history.specs.Conditions.{Condition}
use Rattle.nio_history.specs.Histories.{state_after, mine, event_of, IsLegal}
use Rattle.nio_history.specs.declared.act.Act.{Act}
use Rattle.nio_history.specs.declared.act.Act.TheVariants.{DrawBit}
use Rattle.nio_history.specs.declared.event.Event.{Event}
use Rattle.nio_words.specs.Instructions.{one_bit}
use Rattle.nio_words.specs.Passes.{seen, state_seen, limits_of}
use Rattle.nio_words.specs.Rule.{HasBit, StandsIn}
use Rattle.nio_words.specs.declared.view.View.{View}
use Rattle.nio_words.specs.declared.words.Pass.{Pass}
use Rattle.nio_words.specs.declared.words.Words.{Words}

-- what a step tells doesn't depend on its instruction
abbrev pub any_step : Step (Unit {0})
any_step = step 0 0 0 0 none

-- a caller, and what it does where it finds this word
pub record Doing : Type 0 where
  pub who : CallerNo
  pub act : ℕ → Act

-- in what the pass has seen, the caller may do it, whatever it finds
abbrev pub MayDo : Words → Pass → Doing → Type 0
MayDo w p doing = (n : ℕ) → Condition (limits_of w) (mine doing.who (seen p)) (state_seen p) doing.who (doing.act n)

-- the view has seen the history so far
pub record Looks (v : View) (w : View) : Type 0 where
  pub past : List Event
  pub begins : IsPrefix v.seen past
  pub own : (n : CallerNo) → HasBit v.numbers n.0 → mine n past ≡ mine n v.seen
  pub legal : IsLegal v.limits past
  pub whole : v.alone ≡ true → past ≡ v.seen
  pub after : w ≡ record v { seen = past; halves = [] }

-- the view has seen the history so far and one event more, a step of `me`, and has these numbers
pub record Adds (v : View) (numbers : ℕ) (me : CallerNo) (act : Act) (w : View) : Type 0 where
  pub past : List Event
  pub begins : IsPrefix v.seen past
  pub own : (n : CallerNo) → HasBit v.numbers n.0 → mine n past ≡ mine n v.seen
  pub own_me : mine me past ≡ mine me v.seen
  pub legal : IsLegal v.limits (past ++ event_of me act ∷ [])
  pub whole : v.alone ≡ true → past ≡ v.seen
  pub after : w ≡ record v { seen = past ++ event_of me act ∷ []; numbers = numbers; halves = [] }

-- of a view that comes from a joining: what both sides knew stands in what it has seen, which is a
-- legal history
pub record Recalls (v w : View) : Type 0 where
  pub halves : All (StandsIn v.seen) v.halves
  pub legal : IsLegal v.limits v.seen
  pub after : w ≡ record v { halves = [] }

-- what a draw tells, where it found the number drawn or not
abbrev pub TellsDrawn : View → CallerNo → Bool → View → Type 0
TellsDrawn v number true w = Looks v w × ((state_after w.seen).drawn number.0 ≡ true)
TellsDrawn v number false w = Adds v (bit_or v.numbers (one_bit number.0)) number (DrawBit number false) w
