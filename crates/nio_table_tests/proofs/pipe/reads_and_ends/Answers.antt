use Rattle.std.proofs.Common.{refl}
use Rattle.nio_history.proofs.PassViews.{channel_after}
use Rattle.nio_pipe.proofs.Idle.{may_after, may_same}
use Rattle.nio_table_tests.proofs.pipe.reads_and_ends.Goals as goal

pub close_channel-requires-clause-channel : goal.close_channel-requires-clause-channel
close_channel-requires-clause-channel g c = channel_after c.read-read.ensures.call.acts c.requires.ends.sink

pub close-requires-clause-channel : goal.close-requires-clause-channel
close-requires-clause-channel g c =
    let e = c.read-read.ensures in
    (may_same e.same.channel refl (may_after e.call.acts e.ready e.unpinned c.requires)).ends.source
