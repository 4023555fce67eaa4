use Rattle.std.proofs.Common.{◌≡◌, true, false, rules}
use Rattle.nio_history.proofs.PassViews.{selector_after, channel_after}
use Rattle.nio_steps.proofs.WaitingLaws.{try_more, try_last}
use Rattle.nio_steps.specs.ChannelCalls.{finds_held}
use Rattle.nio_channel.proofs.Retrying.{trying_none}
use Rattle.nio_channel.proofs.waiting.register.Goals as goal

pub loop-init : goal.loop-init
loop-init g c = (
  c.requires.ready,
  c.requires.selector,
  c.requires.channel,
  c.requires.unpinned,
  trying_none _ _ _ _ c.requires.ready.pass.legal,
)

pub loop-preserved : goal.loop-preserved
loop-preserved g c =
    let again : finds_held c.try_register-answer.result ≡ true = search rules in (
      c.try_register-answer.ensures.ready,
      selector_after c.try_register-answer.ensures.call.acts c.loop.invariant.1,
      channel_after c.try_register-answer.ensures.call.acts c.loop.invariant.2,
      c.try_register-answer.ensures.unpinned,
      try_more tt c.try_register-answer.result c.loop.invariant.4 c.try_register-answer.ensures.call again,
    )

pub returns-then-not-is_busy-clause-call : goal.returns-then-not-is_busy-clause-call
returns-then-not-is_busy-clause-call g c =
    let over : finds_held c.try_register-answer.result ≡ false = search rules in
    try_last tt c.try_register-answer.result c.loop.invariant.4 c.try_register-answer.ensures.call over
