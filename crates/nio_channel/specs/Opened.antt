-- What stands of a channel that a call opened, and a part of the plan of giving a number to a new one.
use Rattle.std.specs.Prelude.{Bool, true, false, IsTrue, Result, Ok, Err}
use Rattle.nio_base.specs.declared.kind.Kind.{Kind}
use Rattle.nio_base.specs.declared.limits.Limits.{Limits}
use Rattle.nio_base.specs.declared.numbers.ChanId.{ChanId}
use Rattle.nio_base.specs.declared.numbers.ChanNo.{ChanNo}
use Rattle.nio_history.specs.PassViews.{PassView, known, HasChannel}
use Rattle.nio_history.specs.Permanent.{channel_of_kind, stands}
use Rattle.nio_history.specs.declared.found.Chan.{Chan}
use Rattle.nio_steps.specs.ChannelCalls.{first_key, reopen_clear}
use Rattle.nio_steps.specs.Plan.{Plan, ◌>>=◌}
use Rattle.nio_steps.specs.declared.refusal.ReopenError.{ReopenError}
use Rattle.nio_steps.specs.declared.refusal.ReopenError.TheVariants.{Lost, Open, SerialsSpent, Busy, Registered}

-- it may be passed to calls, and every channel of its number is of this kind
pub record HasOpened (pass : PassView) (of : Kind) (c : ChanId) : Type 0 where
  pub has : HasChannel pass c
  pub kind : IsTrue (stands (channel_of_kind c.number.0 of) (known pass))

-- what reopening does under the hold of the number
abbrev pub reopen_held : Limits → ChanNo → Chan → Plan (Result ChanId ReopenError)
reopen_held l c from = first_key l c >>= reopen_clear c from

-- the answer is a refusal that the first look of reopening decides
abbrev pub is_decided_at_once : Result ChanId ReopenError → Bool
is_decided_at_once (Ok c) = false
is_decided_at_once (Err Lost) = true
is_decided_at_once (Err Open) = true
is_decided_at_once (Err SerialsSpent) = true
is_decided_at_once (Err Busy) = false
is_decided_at_once (Err Registered) = false
