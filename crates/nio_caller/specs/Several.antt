-- Calls that are several calls, one after the other.
use Rattle.std.specs.Bool.{then_some}
use Rattle.std.specs.Prelude.{ℕ, false, Option, Some, None, Result, Ok, Err, List}
use Rattle.nio_base.specs.declared.limits.Limits.{Limits}
use Rattle.nio_base.specs.declared.numbers.ChanId.{ChanId}
use Rattle.nio_base.specs.declared.numbers.KeyNo.{KeyNo}
use Rattle.nio_base.specs.declared.numbers.SelNo.{SelNo}
use Rattle.nio_history.specs.declared.act.Act.{Act}
use Rattle.nio_steps.specs.ChannelCalls.{SetsBlocking, Registers, key_for_plan}
use Rattle.nio_steps.specs.KeyCalls.{unselect_plan}
use Rattle.nio_steps.specs.Runs.{Completes}
use Rattle.nio_steps.specs.Waiting.{Then}
use Rattle.nio_steps.specs.declared.refusal.ChannelError.{ChannelError}
use Rattle.nio_caller.specs.NamedCalls.{OnlyAnswers, OnChannel, OnSelector}

-- ---- registering

abbrev pub RegistersAfter : Limits → SelNo → ChanId → ℕ → ℕ → Result (Unit {0}) ChannelError → List Act
    → Result KeyNo ChannelError → Type 0
RegistersAfter l s c ops att (Ok done) = Registers l s c ops att
RegistersAfter l s c ops att (Err error) = OnlyAnswers (Err error)

-- the channel is made non-blocking; where that isn't refused, it is registered
abbrev pub RegistersNonBlocking : Limits → SelNo → ChanId → ℕ → ℕ → List Act → Result KeyNo ChannelError → Type 0
RegistersNonBlocking l s c ops att = Then (SetsBlocking l c false) (RegistersAfter l s c ops att)

-- ---- taking out of the selected set

-- the key is the answer where it was taken out of the selected set
abbrev pub UnselectsFound : Option KeyNo → List Act → Option KeyNo → Type 0
UnselectsFound (Some key) = Then (Completes (unselect_plan key)) (λ out. OnlyAnswers (then_some out key))
UnselectsFound None = OnlyAnswers None

-- The selector and the channel are looked up, and then the channel's key there; where there is one, it is taken out of the
-- selected set.
abbrev pub TakesSelected : Limits → ChanId → SelNo → List Act → Option KeyNo → Type 0
TakesSelected l c s =
    OnSelector l s None (OnChannel l c None (Then (Completes (key_for_plan c s)) UnselectsFound))
