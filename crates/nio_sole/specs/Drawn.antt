-- The beginning of a `Sole`: every number is drawn, and nothing else was done.
use Rattle.std.specs.Prelude.{◌≡◌, ℕ, zero, suc, ◌<◌, ◌≤◌, ◌++◌, false, IsTrue, Option, None, List, [], ◌∷◌, Vec}
use Rattle.std.specs.Prelude.{vec_len}
use Rattle.std.specs.declared.alloc.Global.{Global}
use Rattle.nio_base.specs.declared.limits.Limits.{Limits}
use Rattle.nio_base.specs.declared.numbers.CallerNo.{CallerNo}
use Rattle.nio_history.specs.Histories.{state_after, mine}
use Rattle.nio_history.specs.State.{State}
use Rattle.nio_history.specs.declared.event.Event.{Event}
use Rattle.nio_plain.specs.ScriptState.{script_opening}
use Rattle.nio_serial.specs.Between.{IsBetween}
use Rattle.nio_serial.specs.Documented.{nothing_yet, documented}
use Rattle.nio_serial.specs.Serial.{Entry, draw, history_of}
use Rattle.nio_sole.specs.Made.{HasMade}
use Rattle.nio_sole.specs.Stands.{slot}
use Rattle.nio_words.specs.Passes.{Holds, IsOnly, IsPassOf, limits_of, seen}
use Rattle.nio_words.specs.declared.words.Pass.{Pass}
use Rattle.nio_words.specs.declared.words.Words.{Words}

-- the draws of so many numbers, from 0 up
abbrev pub draws : ℕ → List Entry
draws zero = []
draws (suc k) = draws k ++ draw (record { 0 = k }) ∷ []

-- Draws alone were made: it stands between two calls, in the opening state of scripts; each caller made whole calls;
-- each number below k is drawn, and no other.
pub record AreDrawn (l : Limits) (events : List Event) (k : ℕ) : Type 0 where
  pub are : events ≡ history_of (draws k)
  pub opening : documented (state_after events) nothing_yet ≡ script_opening
  pub between : IsBetween l (state_after events) nothing_yet
  pub made : (n : CallerNo) → HasMade l (mine n events) n nothing_yet
  pub drawn : (n : ℕ) → n < k → IsTrue ((state_after events).drawn n)
  pub undrawn : (n : ℕ) → k ≤ n → (state_after events).drawn n ≡ false

-- the table's only pass has drawn each number below k, and nothing else was done
pub record HasDrawn (w : Words) (p : Pass) (k : ℕ) : Type 0 where
  pub pass : IsPassOf w p
  pub only : IsOnly p
  pub holds : (n : CallerNo) → n.0 < k → Holds p n
  pub drawn : AreDrawn (limits_of w) (seen p) k

-- there are so many places, and nothing stands in one
pub record AreEmpty {A : Type 0} (places : Vec (Option A) Global) (count : ℕ) : Type 0 where
  pub len : vec_len places ≡ count
  pub none : (s : ℕ) → slot places.items s ≡ None

-- every caller's number is drawn
abbrev pub AreAllDrawn : Limits → State → Type 0
AreAllDrawn l st = (n : CallerNo) → n.0 < l.callers → IsTrue (st.drawn n.0)
