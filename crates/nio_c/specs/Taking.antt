-- Taking all selected keys out: they are listed, and then taken out one after the other.
use Rattle.std.specs.Prelude.{◌≡◌, ℕ, nat_le, Bool, false, MatchBool, length, List, [], ◌∷◌, Result, Ok, Err}
use Rattle.nio_base.specs.declared.numbers.KeyNo.{KeyNo}
use Rattle.nio_base.specs.declared.numbers.SelNo.{SelNo}
use Rattle.nio_caller.specs.Callers.{Acting}
use Rattle.nio_caller.specs.NamedCalls.{Calls, MayRefuse, OnKey, OnSelector}
use Rattle.nio_caller.specs.declared.refusal.CallError.{CallError}
use Rattle.nio_caller.specs.declared.refusal.CallError.TheVariants.{NoSuchSelector}
use Rattle.nio_steps.specs.KeyCalls.{unselect_plan}
use Rattle.nio_steps.specs.Runs.{Completes}
use Rattle.nio_steps.specs.SelectCalls.{ListsSelected}
use Rattle.nio_steps.specs.declared.refusal.ListError.{ListError}

-- one call that takes the key out of the selected set
pub record Unselects (key : KeyNo) (old new : Acting) : Type 0 where
  pub taken : Bool
  pub call : Calls (λ l. OnKey l key false (Completes (unselect_plan key))) old new taken

-- such a call for each key, in order
abbrev pub UnselectsEach : List KeyNo → Acting → Acting → Type 0
UnselectsEach [] old new = new ≡ old
UnselectsEach (key ∷ later) old new = (middle : Acting) × Unselects key old middle × UnselectsEach later middle new

-- where there is room for the list its keys are taken out
abbrev pub TakesListed : ℕ → Result (List KeyNo) (CallError ListError) → Acting → Acting → Type 0
TakesListed room (Ok keys) old new = MatchBool (nat_le (length keys) room) (UnselectsEach keys old new) (new ≡ old)
TakesListed room (Err error) old new = new ≡ old

pub record TakesAll (s : SelNo) (room : ℕ) (old new : Acting) (answer : Result (List KeyNo) (CallError ListError))
    : Type 0 where
  pub middle : Acting
  pub lists : Calls (λ l. OnSelector l s (Err NoSuchSelector) (MayRefuse (ListsSelected s))) old middle answer
  pub takes : TakesListed room answer middle new
