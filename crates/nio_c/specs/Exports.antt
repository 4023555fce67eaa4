-- What an export does.
use Rattle.std.specs.Prelude.{◌≡◌, ℕ, true, MatchBool}
use Rattle.nio_caller.specs.Callers.{Acting}
use Rattle.nio_c.specs.Holding.{Holding}
use Rattle.nio_c.specs.Statuses.{code}
use Rattle.nio_c.specs.declared.handle.Handle.{Handle}
use Rattle.nio_c.specs.declared.status.Status.{Status}
use Rattle.nio_c.specs.declared.status.Status.TheVariants.{EmptyHandle}

-- What is behind the handle made this call, and is behind it still. `Wrote answer` says what was written, and the status
-- is that of the answer.
pub record Makes {R : Type 0} (Call : Holding → Holding → R → Type 0) (status_of : R → Status) (Wrote : R → Type 0)
    (old new : Handle) (status : ℕ) : Type 0 where
  pub answer : R
  pub call : Call old.holder new.holder answer
  pub back : new.full ≡ true
  pub wrote : Wrote answer
  pub says : status ≡ code (status_of answer)

-- this status, and nothing was done and nothing written
pub record Refuses (refusal : Status) (Untouched : Type 0) (old new : Handle) (status : ℕ) : Type 0 where
  pub same : new ≡ old
  pub untouched : Untouched
  pub says : status ≡ code refusal

-- an export on a handle: a call of what is behind it, where it isn't empty
abbrev pub ExportsHeld : {R : Type 0} → (Holding → Holding → R → Type 0) → (R → Status) → (R → Type 0) → Type 0
    → Handle → Handle → ℕ → Type 0
ExportsHeld Call status_of Wrote Untouched old new status =
    MatchBool old.full (Makes Call status_of Wrote old new status) (Refuses EmptyHandle Untouched old new status)

-- the caller made this call; the room stays, and no place was visited
pub record ByCaller {R : Type 0} (Call : Acting → Acting → R → Type 0) (old new : Holding) (answer : R) : Type 0 where
  pub call : Call old.caller new.caller answer
  pub room : new.room ≡ old.room
  pub visitor : new.visitor ≡ old.visitor

-- an export that makes a caller's call
abbrev pub Exports : {R : Type 0} → (Acting → Acting → R → Type 0) → (R → Status) → (R → Type 0) → Type 0
    → Handle → Handle → ℕ → Type 0
Exports Call status_of Wrote Untouched old new status =
    ExportsHeld (ByCaller Call) status_of Wrote Untouched old new status
