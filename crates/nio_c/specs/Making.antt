-- Making a table, giving a number away, letting a caller go.
use Rattle.std.specs.Prelude.{◌≡◌, ◌≢◌, ◌↔◌, ◌⊎◌, ⊤, ℕ, true, MatchBool, IsTrue, IfOk, Result, Ok, Err}
use Rattle.nio_base.specs.Limits.{IsFit}
use Rattle.nio_base.specs.declared.limits.Limits.{Limits}
use Rattle.nio_base.specs.declared.numbers.CallerNo.{CallerNo}
use Rattle.nio_caller.specs.Callers.{Acting, GivesNumber, HasNothing, IsSameCaller, draws, sees}
use Rattle.nio_caller.specs.declared.refusal.SplitError.{SplitError}
use Rattle.nio_caller.specs.declared.refusal.SplitError.TheVariants.{NoHandle, NotHeld}
use Rattle.nio_history.specs.Conditions.{IsCaller}
use Rattle.nio_history.specs.PassViews.{Holds}
use Rattle.nio_words.specs.Passes.{limits_of}
use Rattle.nio_select.specs.Listed.{ok_seen}
use Rattle.nio_c.specs.Exports.{ByCaller, Refuses}
use Rattle.nio_c.specs.Handles.{Has, IsEmpty}
use Rattle.nio_c.specs.Holding.{Holding}
use Rattle.nio_c.specs.Places.{rested}
use Rattle.nio_c.specs.Statuses.{code}
use Rattle.nio_c.specs.declared.handle.Handle.{Handle}
use Rattle.nio_c.specs.declared.status.Status.TheVariants as status

-- ---- making a table

-- the first caller at a new table with these limits: it holds every number, and nothing was done but to draw them
pub record IsFirst (l : Limits) (caller : Acting) : Type 0 where
  pub limits : limits_of caller.table ≡ l
  pub number : caller.number.0 ≡ 0
  pub holds : (n : CallerNo) → IsCaller (limits_of caller.table) n → Holds (sees caller) n
  pub sight : (sees caller).seen ≡ draws (limits_of caller.table).callers
  pub only : IsTrue (sees caller).only
  pub nothing : HasNothing caller

-- a first caller is in the handle
pub record HasFirst (l : Limits) (handle : Handle) (answer : ℕ) : Type 0 where
  pub full : handle.full ≡ true
  pub first : IsFirst l handle.holder.caller
  pub says : answer ≡ code status.Done

-- Where the handle is empty and the limits fit, a table and its first caller, or there is no memory; else a refusal.
abbrev pub MakesTable : Limits → Handle → Handle → ℕ → Type 0
MakesTable l old new says = MatchBool old.full (Refuses status.FullHandle ⊤ old new says)
    ((IsFit l × (HasFirst l new says ⊎ Refuses status.NoMemory ⊤ old new says))
    ⊎ ((¬ IsFit l) × Refuses status.IllegalArgument ⊤ old new says))

-- ---- giving a number away

-- the caller holds the number, which isn't its own
abbrev pub MayGive : CallerNo → Acting → Type 0
MayGive n caller = Holds (sees caller) n × (n ≢ caller.number)

-- it has its lists, and in progress what it had
pub record KeepsAll (old new : Acting) : Type 0 where
  pub same : IsSameCaller old new
  pub lists : new.selectors ≡ old.selectors
  pub progress : new.progress ≡ old.progress

-- it has seen what it had seen, and holds the numbers that it held
pub record HasAllBack (old new : Acting) : Type 0 where
  pub keeps : KeepsAll old new
  pub sight : (sees new).seen ≡ (sees old).seen
  pub holds : (n : CallerNo) → Holds (sees new) n ↔ Holds (sees old) n

pub record GivesAway (n : CallerNo) (old new given : Acting) : Type 0 where
  pub may : MayGive n old
  pub gives : GivesNumber n old new given
  pub keeps : KeepsAll old new
  pub nothing : HasNothing given

-- The number is given away to a new caller; or the caller has no such number; or there is no memory for the new one.
abbrev pub Splits : CallerNo → Acting → Acting → Result Acting SplitError → Type 0
Splits n old new (Ok given) = GivesAway n old new given
Splits n old new (Err NotHeld) = (¬ MayGive n old) × (new ≡ old)
Splits n old new (Err NoHandle) = HasAllBack old new

-- the same; no place was visited, and what has the new caller shares the places
pub record SplitsOff (n : CallerNo) (old new : Holding) (answer : Result Holding SplitError) : Type 0 where
  pub call : ByCaller (Splits n) old new (ok_seen (λ given. given.caller) answer)
  pub places : IfOk answer (λ given. given.visitor ≡ rested old.visitor)

-- the new caller is behind the handle, or the handle is as it was
abbrev pub IsGiven : {E : Type 0} → Result Holding E → Handle → Handle → Type 0
IsGiven (Ok given) old new = Has new given
IsGiven (Err error) old new = new ≡ old

-- ---- letting a caller go

pub record IsLetGo (handle : Handle) (answer : ℕ) : Type 0 where
  pub empty : IsEmpty handle
  pub says : answer ≡ code status.Done

abbrev pub LetsGo : Handle → Handle → ℕ → Type 0
LetsGo old new says = MatchBool old.full (IsLetGo new says) (Refuses status.EmptyHandle ⊤ old new says)

-- ---- its number

pub record SaysNumber (old new : Acting) (number : ℕ) : Type 0 where
  pub same : new ≡ old
  pub its : number ≡ old.number.0
