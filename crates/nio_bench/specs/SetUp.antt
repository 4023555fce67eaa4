-- What stands between the calls that are timed.
use Rattle.std.specs.Prelude.{false, List, [], ◌∷◌}
use Rattle.std.specs.List.{All}
use Rattle.nio_base.specs.declared.numbers.CallerNo.{CallerNo}
use Rattle.nio_base.specs.declared.numbers.ChanId.{ChanId}
use Rattle.nio_base.specs.declared.numbers.SelNo.{SelNo}
use Rattle.nio_history.specs.Histories.{event_of}
use Rattle.nio_history.specs.PassViews.{HasChannel, HasNoPin, HasSelector}
use Rattle.nio_history.specs.declared.act.Act.TheVariants.{DrawBit}
use Rattle.nio_history.specs.declared.event.Event.{Event}
use Rattle.nio_select.specs.InHand.{HeldSelector}
use Rattle.nio_select.specs.InProgress.{MaySelect}
use Rattle.nio_words.specs.Passes.{IsReady}
use Rattle.nio_words.specs.Views.{view}
use Rattle.nio_words.specs.declared.words.Pass.{Pass}
use Rattle.nio_words.specs.declared.words.Words.{Words}

abbrev pub caller : CallerNo
caller = record { 0 = 0 }

abbrev pub selector : SelNo
selector = record { 0 = 0 }

-- what stands after the caller has drawn its number
abbrev pub drawn : List Event
drawn = event_of caller (DrawBit caller false) ∷ []

-- the caller may step with the pass and has no pin, and the selector is made
pub record IsIdle (w : Words) (p : Pass) (me : CallerNo) (s : SelNo) : Type 0 where
  pub ready : IsReady w p me
  pub unpinned : HasNoPin (view w p) me
  pub selector : HasSelector (view w p) s

-- and so are these channels
pub record IsSetUp (w : Words) (p : Pass) (me : CallerNo) (s : SelNo) (opened : List ChanId) : Type 0 where
  pub idle : IsIdle w p me s
  pub channels : All (HasChannel (view w p)) opened

-- the same stands at the later moment of the pass
pub record StaysIdle (w : Words) (p q : Pass) (me : CallerNo) (s : SelNo) : Type 0 where
  pub idle : IsIdle w q me s
  pub channels : (c : ChanId) → HasChannel (view w p) c → HasChannel (view w q) c
  pub selects : (selector : HeldSelector) → MaySelect (view w p) me selector → MaySelect (view w q) me selector
