-- The parts of the beginning of a selection, with the selector's list or without it, each with this answer.
use Rattle.std.specs.Prelude.{◌≡◌, ℕ, Option, IsTrue, IsFalse, is_some, List, [], Result, Ok, Err}
use Rattle.nio_base.specs.declared.numbers.CallerNo.{CallerNo}
use Rattle.nio_base.specs.declared.numbers.SelNo.{SelNo}
use Rattle.nio_history.specs.Conditions.{IsSelector, has_list}
use Rattle.nio_history.specs.declared.act.Act.{Act}
use Rattle.nio_history.specs.declared.found.Mode.{Mode}
use Rattle.nio_steps.specs.Runs.{Completes}
use Rattle.nio_steps.specs.SelectCalls.{Selection, begin_open, begin_with_turn, begin_below, begin_lacks_memory}
use Rattle.nio_steps.specs.declared.looked.LookedKey.{LookedKey}
use Rattle.nio_steps.specs.declared.refusal.BeginError.{BeginError}
use Rattle.nio_words.specs.Passes.{IsReady, limits_of, state_seen}
use Rattle.nio_words.specs.declared.words.Pass.{Pass}
use Rattle.nio_words.specs.declared.words.Words.{Words}
use Rattle.nio_select.specs.Asked.{Looked, AreBelow}

abbrev pub BeginsOpen : SelNo → Mode → Option (List LookedKey) → List Act → Result Selection BeginError → Type 0
BeginsOpen s mode known acts answer = Completes (begin_open s mode known (begin_lacks_memory answer)) acts answer

abbrev pub BeginsWithTurn : SelNo → Mode → Option (List LookedKey) → List Act → Result Selection BeginError → Type 0
BeginsWithTurn s mode known acts answer = Completes (begin_with_turn s mode known (begin_lacks_memory answer)) acts answer

abbrev pub BeginsBelow : SelNo → Mode → Option (List LookedKey) → ℕ → List Act → Result Selection BeginError → Type 0
BeginsBelow s mode known bound acts answer = Completes (begin_below s mode known bound (begin_lacks_memory answer)) acts answer

-- what a beginning answers that found this bound and left this looked list
abbrev pub begun_with : SelNo → Mode → Looked → Result ℕ BeginError → Result Selection BeginError
begun_with s mode asked (Ok bound) = Ok (record {
  selector = s;
  mode = mode;
  bound = bound;
  looked = asked.keys;
  listed = is_some asked.stamp;
})
begun_with s mode asked (Err refusal) = Err refusal

-- What a beginning starts from: the selector's list, where the caller has it, or else no key.
pub record MayFill (w : Words) (p : Pass) (me : CallerNo) (s : SelNo) (asked : Looked) : Type 0 where
  pub ready : IsReady w p me
  pub selector : IsSelector (limits_of w) s
  pub list : IsTrue (is_some asked.stamp) → IsTrue (has_list (state_seen p) me s)
  pub empty : IsFalse (is_some asked.stamp) → asked.keys ≡ []
  pub below : AreBelow (limits_of w).keys asked.keys
