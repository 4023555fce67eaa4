-- What the words of a line are read as, where they are none of a script.
use Rattle.std.specs.Prelude.{◌≡◌, ⊤, ◌<◌, ◌^◌, Option, Some, IfSome}
use Rattle.nio_base.specs.declared.numbers.CallerNo.{CallerNo}
use Rattle.nio_language.specs.declared.call.Call.{Call}
use Rattle.nio_language.specs.declared.call.Call.TheVariants as call
use Rattle.nio_language.specs.declared.group_call.GroupCall.{GroupCall}
use Rattle.nio_timed.specs.Lines.{IsTimedStart}
use Rattle.nio_timed.specs.declared.call.TimedCall.{TimedCall}
use Rattle.nio_timed.specs.declared.call.TimedCall.TheVariants.{Group, StartTimed, Expire, Next}
use Rattle.nio_timed.specs.declared.call.TimedLine.{TimedLine}

-- a call that a line can say, and that scripts don't have
abbrev pub IsOwnCall : TimedCall → Type 0
IsOwnCall (Group g) = ⊥
IsOwnCall (StartTimed s) = IsTimedStart s
IsOwnCall (Expire now) = now < 2 ^ 64
IsOwnCall Next = ⊤

pub record IsOwnLine (l : TimedLine) : Type 0 where
  pub caller : l.caller.0 < 64
  pub call : IsOwnCall l.call

-- the answer is the line of this caller with this call, where that is on the group
pub record IsGroupLineOf (caller : CallerNo) (c : Call) (answer : Option TimedLine) : Type 0 where
  pub found : IfSome answer
      (λ l. (g : GroupCall) × (c ≡ call.Group g) × (l ≡ record { caller = caller; call = Group g }))
  pub only : (g : GroupCall) → c ≡ call.Group g → answer ≡ Some (record { caller = caller; call = Group g })
