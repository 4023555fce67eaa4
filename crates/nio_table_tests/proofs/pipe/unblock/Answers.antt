use Rattle.std.proofs.Common.{false}
use Rattle.nio_history.proofs.PassViews.{channel_after}
use Rattle.nio_pipe.proofs.Idle.{may_after}
use Rattle.nio_steps.proofs.PinBack.{no_pin_after}
use Rattle.nio_steps.proofs.PinLaws.{pins_are_given_back}
use Rattle.nio_table_tests.proofs.pipe.unblock.Goals as goal

pub try_set_blocking-requires-2-clause-channel : goal.try_set_blocking-requires-2-clause-channel
try_set_blocking-requires-2-clause-channel c = channel_after c.try_set_blocking.ensures.call.acts c.requires.ends.sink

pub returns : goal.returns
returns c =
    let first = c.try_set_blocking.ensures in
    let second = c.try_set_blocking-2.ensures in
    let once = no_pin_after (λ acts shape. pins_are_given_back.try_set_blocking _ c.args.source false acts _ shape)
    first.call c.requires.unpinned in
    let twice = no_pin_after (λ acts shape. pins_are_given_back.try_set_blocking _ c.args.sink false acts _ shape)
    second.call once in
    may_after second.call.acts second.ready twice (may_after first.call.acts first.ready once c.requires)
