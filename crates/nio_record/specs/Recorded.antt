-- What a recorder has written down.
use Rattle.std.specs.Prelude.{◌≡◌, ℕ, zero, suc, ◌<◌, Bool, false, List, [], ◌∷◌, ◌++◌}
use Rattle.nio_audit.specs.Audit.{MayStep}
use Rattle.nio_base.specs.declared.limits.Limits.{Limits}
use Rattle.nio_base.specs.declared.numbers.CallerNo.{CallerNo}
use Rattle.nio_history.specs.declared.act.Act.{Act}
use Rattle.nio_history.specs.declared.act.Act.TheVariants.{DrawBit}
use Rattle.nio_history.specs.Histories.{event_of}
use Rattle.nio_history.specs.declared.event.Event.{Event}
use Rattle.nio_words.specs.Passes.{Holds, IsOnly, IsPassOf, limits_of, seen}
use Rattle.nio_words.specs.declared.words.Pass.{Pass}
use Rattle.nio_words.specs.declared.words.Words.{Words}
use Rattle.nio_record.specs.declared.recorder.Recorder.{Recorder}

-- the limits of its table
abbrev pub table_limits : Recorder → Limits
table_limits r = limits_of r.words

-- what it has written down
abbrev pub written : Recorder → List Event
written r = r.events.items

-- the draws of so many callers' numbers, from 0 up
abbrev pub draws : ℕ → List Event
draws zero = []
draws (suc k) = draws k ++ event_of (record { 0 = k }) (DrawBit (record { 0 = k }) false) ∷ []

-- the table's only pass has drawn each number below k, and nothing else was done
pub record HasDrawn (w : Words) (p : Pass) (k : ℕ) : Type 0 where
  pub pass : IsPassOf w p
  pub only : IsOnly p
  pub holds : (n : CallerNo) → n.0 < k → Holds p n
  pub sight : seen p ≡ draws k

-- its pass acts for the caller
abbrev pub acts_for : Recorder → CallerNo → Type 0
acts_for r me = Holds r.pass me

-- its pass is the table's only one, and what it has written down is all that the pass has seen
pub record IsRecorded (r : Recorder) : Type 0 where
  pub pass : IsPassOf r.words r.pass
  pub only : IsOnly r.pass
  pub seen : seen r.pass ≡ written r

-- its pass acts for the caller, who may make the step after what was written down, whatever the step finds
pub record MayMake (r : Recorder) (me : CallerNo) (act : Act) : Type 0 where
  pub holds : acts_for r me
  pub may : MayStep (table_limits r) (written r) me act

-- the act is a caller's draw of its number
abbrev pub IsDraw : Act → Type 0
IsDraw act = (n : CallerNo) × (found : Bool) × (act ≡ DrawBit n found)
