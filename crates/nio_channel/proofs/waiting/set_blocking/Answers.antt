use Rattle.std.proofs.Common.{◌≡◌, true, false, rules}
use Rattle.nio_history.proofs.PassViews.{channel_after}
use Rattle.nio_steps.proofs.WaitingLaws.{try_more, try_last}
use Rattle.nio_steps.specs.ChannelCalls.{finds_held}
use Rattle.nio_channel.proofs.Retrying.{trying_none}
use Rattle.nio_channel.proofs.waiting.set_blocking.Goals as goal

pub loop-init : goal.loop-init
loop-init g c = (c.requires.ready, c.requires.channel, trying_none _ _ _ _ c.requires.ready.pass.legal)

pub loop-preserved : goal.loop-preserved
loop-preserved g c =
    let again : finds_held c.try_set_blocking-answer.result ≡ true = search rules in (
      c.try_set_blocking-answer.ensures.ready,
      channel_after c.try_set_blocking-answer.ensures.call.acts c.loop.invariant.1,
      try_more tt c.try_set_blocking-answer.result c.loop.invariant.2 c.try_set_blocking-answer.ensures.call
          again,
    )

pub returns-then-not-is_busy-clause-call : goal.returns-then-not-is_busy-clause-call
returns-then-not-is_busy-clause-call g c =
    let over : finds_held c.try_set_blocking-answer.result ≡ false = search rules in
    try_last tt c.try_set_blocking-answer.result c.loop.invariant.2 c.try_set_blocking-answer.ensures.call over
