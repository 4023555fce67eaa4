-- What stands within the finishing of a closing, between two of its steps.
use Rattle.std.specs.Prelude.{IsTrue}
use Rattle.nio_base.specs.declared.numbers.CallerNo.{CallerNo}
use Rattle.nio_base.specs.declared.numbers.SelNo.{SelNo}
use Rattle.nio_history.specs.Conditions.{IsSelector, has_entered}
use Rattle.nio_history.specs.OwnEvents.{has, enters}
use Rattle.nio_words.specs.Passes.{IsReady, limits_of, state_seen, acts_seen}
use Rattle.nio_words.specs.declared.words.Pass.{Pass}
use Rattle.nio_words.specs.declared.words.Words.{Words}

-- the caller may step with the pass, shut the selector, and found its turn free after that
pub record HasEntered (w : Words) (p : Pass) (me : CallerNo) (s : SelNo) : Type 0 where
  pub ready : IsReady w p me
  pub inside : IsSelector (limits_of w) s
  pub entered : IsTrue (has_entered (state_seen p) me s)
  pub found_free : IsTrue (has (enters s.0) (acts_seen p me))
