use Rattle.nio_history.proofs.PassViews.{channel_after}
use Rattle.nio_pipe.proofs.Idle.{may_after}
use Rattle.nio_steps.proofs.PinBack.{no_pin_after}
use Rattle.nio_steps.proofs.PinLaws.{pins_are_given_back}
use Rattle.nio_table_tests.proofs.pipe.reopen.Goals as goal

pub reopen_channel-second-requires-clause-channel : goal.reopen_channel-second-requires-clause-channel
reopen_channel-second-requires-clause-channel c =
    channel_after c.reopen_channel-first.ensures.call.acts c.requires.ends.sink

pub returns : goal.returns
returns c =
    let first = c.reopen_channel-first.ensures in
    let second = c.reopen_channel-second.ensures in
    let once = no_pin_after (λ acts shape. pins_are_given_back.reopen_channel _ c.args.source acts _ shape)
    first.call c.requires.unpinned in
    let twice = no_pin_after (λ acts shape. pins_are_given_back.reopen_channel _ c.args.sink acts _ shape)
    second.call once in
    may_after second.call.acts second.ready twice (may_after first.call.acts first.ready once c.requires)
