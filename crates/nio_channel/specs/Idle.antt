-- For the tests: two callers between their calls.
use Rattle.std.specs.Prelude.{false, List, [], ◌∷◌}
use Rattle.nio_base.specs.declared.numbers.CallerNo.{CallerNo}
use Rattle.nio_base.specs.declared.numbers.SelNo.{SelNo}
use Rattle.nio_history.specs.Histories.{event_of}
use Rattle.nio_history.specs.PassViews.{HasNoPin, HasSelector}
use Rattle.nio_history.specs.declared.act.Act.TheVariants.{DrawBit}
use Rattle.nio_history.specs.declared.event.Event.{Event}
use Rattle.nio_words.specs.Passes.{IsReady}
use Rattle.nio_words.specs.Views.{view}
use Rattle.nio_words.specs.declared.words.Pass.{Pass}
use Rattle.nio_words.specs.declared.words.Words.{Words}

abbrev pub zero : CallerNo
zero = record { 0 = 0 }

abbrev pub one : CallerNo
one = record { 0 = 1 }

abbrev pub first_selector : SelNo
first_selector = record { 0 = 0 }

-- what stands after both have drawn their numbers
abbrev pub drawn : List Event
drawn = event_of zero (DrawBit zero false) ∷ event_of one (DrawBit one false) ∷ []

-- both may step with the pass and have no pin, and a selector is made
pub record AreIdle (w : Words) (p : Pass) : Type 0 where
  pub zero_ready : IsReady w p zero
  pub one_ready : IsReady w p one
  pub zero_unpinned : HasNoPin (view w p) zero
  pub one_unpinned : HasNoPin (view w p) one
  pub selector : HasSelector (view w p) first_selector
