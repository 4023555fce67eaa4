-- Plans of calls on pipes after a refusal.
use Rattle.std.proofs.Common.{◌≡◌, Err, refl, sym, subst}
use Rattle.nio_base.specs.declared.limits.Limits.{Limits}
use Rattle.nio_base.specs.declared.numbers.CallerNo.{CallerNo}
use Rattle.nio_base.specs.declared.numbers.ChanId.{ChanId}
use Rattle.nio_history.specs.PassViews.{PassView}
use Rattle.nio_steps.specs.Calls.{PartClause}
use Rattle.nio_steps.specs.PipeCalls.{with_source, with_sink, without_sink}
use Rattle.nio_steps.specs.Plan.{Plan, reply}
use Rattle.nio_steps.specs.declared.refusal.ChannelError.{ChannelError}
use Rattle.nio_steps.specs.declared.refusal.PipeMakeError.TheVariants.{ChannelsSpent}

pub no_source : (l : Limits) (e : ChannelError) → with_source l (Err e) ≡ reply (Err ChannelsSpent)
no_source l ChannelError.ChannelsSpent = refl
no_source l ChannelError.IllegalOps = refl
no_source l ChannelError.ClosedChannel = refl
no_source l ChannelError.Busy = refl
no_source l ChannelError.IllegalBlockingMode = refl
no_source l ChannelError.CancelledKey = refl
no_source l ChannelError.ClosedSelector = refl
no_source l ChannelError.Full = refl

pub no_sink : (l : Limits) (source : ChanId) (e : ChannelError) → with_sink l source (Err e) ≡ without_sink l source
no_sink l source ChannelError.ChannelsSpent = refl
no_sink l source ChannelError.IllegalOps = refl
no_sink l source ChannelError.ClosedChannel = refl
no_sink l source ChannelError.Busy = refl
no_sink l source ChannelError.IllegalBlockingMode = refl
no_sink l source ChannelError.CancelledKey = refl
no_sink l source ChannelError.ClosedSelector = refl
no_sink l source ChannelError.Full = refl

-- a plan that is another
pub left_as : {R : Type 0} {me : CallerNo} {plan other rest : Plan R} {v0 v1 : PassView} → plan ≡ other
    → PartClause me other v0 v1 rest → PartClause me plan v0 v1 rest
left_as {me = me} {rest = rest} {v0 = v0} {v1 = v1} same part =
    subst (λ plan. PartClause me plan v0 v1 rest) (sym same) part
