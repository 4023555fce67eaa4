-- What stands within a selection, between two of its steps.
use Rattle.std.specs.Prelude.{◌≡◌, ℕ, IsTrue}
use Rattle.nio_base.specs.declared.numbers.CallerNo.{CallerNo}
use Rattle.nio_base.specs.declared.numbers.SelNo.{SelNo}
use Rattle.nio_history.specs.Conditions.{IsSelector, has_begun, has_list, may_remove_cancelled}
use Rattle.nio_history.specs.Sets.{in_cancelled_set}
use Rattle.nio_history.specs.State.{State}
use Rattle.nio_history.specs.declared.found.Stage.{Stage}
use Rattle.nio_words.specs.Passes.{IsReady, limits_of, state_seen}
use Rattle.nio_words.specs.declared.words.Pass.{Pass}
use Rattle.nio_words.specs.declared.words.Words.{Words}

-- the caller may step with the pass, and selects on the selector
pub record HasBegun (w : Words) (p : Pass) (me : CallerNo) (s : SelNo) : Type 0 where
  pub ready : IsReady w p me
  pub inside : IsSelector (limits_of w) s
  pub begun : IsTrue (has_begun (state_seen p) me s)

-- and it has the selector's list
pub record HasBegunListed (w : Words) (p : Pass) (me : CallerNo) (s : SelNo) : Type 0 where
  pub begun : HasBegun w p me s
  pub list : IsTrue (has_list (state_seen p) me s)

-- A key of the index that was found in the cancelled set is there still, and the caller may remove it.
pub record IsFoundCancelled (st : State) (me : CallerNo) (s : SelNo) (i : ℕ) (stage : Stage) : Type 0 where
  pub may : IsTrue (in_cancelled_set stage) → IsTrue (may_remove_cancelled st me s i)
  pub serial : IsTrue (in_cancelled_set stage) → (st.key s.0 i).serial ≡ stage.serial
