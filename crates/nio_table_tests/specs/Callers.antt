-- What callers have on the tables that tests begin with.
use Rattle.std.specs.Prelude.{◌≡◌}
use Rattle.nio_base.specs.declared.numbers.CallerNo.{CallerNo}
use Rattle.nio_channel.specs.Idle.{zero, one, first_selector, drawn}
use Rattle.nio_history.specs.PassViews.{HasNoPin, HasSelector}
use Rattle.nio_words.specs.Passes.{IsOnly, IsReady, seen}
use Rattle.nio_words.specs.Views.{view}
use Rattle.nio_words.specs.declared.words.Pass.{Pass}
use Rattle.nio_words.specs.declared.words.Words.{Words}

-- both callers are drawn on the table's only pass, and nothing else was done
pub record AreDrawn (w : Words) (p : Pass) : Type 0 where
  pub zero_ready : IsReady w p zero
  pub one_ready : IsReady w p one
  pub only : IsOnly p
  pub seen : seen p ≡ drawn

-- the caller may step with the pass and has no pin, and a selector is made
pub record MayCall (w : Words) (p : Pass) (me : CallerNo) : Type 0 where
  pub ready : IsReady w p me
  pub unpinned : HasNoPin (view w p) me
  pub selector : HasSelector (view w p) first_selector
