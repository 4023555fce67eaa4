use Rattle.nio_history.proofs.PassViews.{channel_after}
use Rattle.nio_poller.proofs.Trying.{begin_gives}
use Rattle.nio_table_tests.proofs.Idle.{idle_call}
use Rattle.nio_table_tests.proofs.select.removes_beside.Goals as goal

pub cancels_beside-registered-requires-clause-idle : goal.cancels_beside-registered-requires-clause-idle
cancels_beside-registered-requires-clause-idle c =
    idle_call (begin_gives _ _ _) c.try_begin.ensures.call c.try_begin.ensures.ready c.requires.idle

pub cancels_beside-registered-requires-clause-channel : goal.cancels_beside-registered-requires-clause-channel
cancels_beside-registered-requires-clause-channel c = channel_after c.try_begin.ensures.call.acts c.requires.channel

pub returns : goal.returns
returns c = idle_call (begin_gives _ _ _) c.try_begin.ensures.call c.try_begin.ensures.ready c.requires.idle
