use Rattle.nio_bench.proofs.SetUp.{stays_after}
use Rattle.nio_bench.proofs.reopening.run.Goals as goal

pub come_back-requires-clause-idle : goal.come_back-requires-clause-idle
come_back-requires-clause-idle g c =
    (stays_after c.close_channel.ensures.call.acts c.close_channel.ensures.ready c.close_channel.ensures.unpinned
    c.in_ok-last.ensures.idle).idle

pub come_back-requires-clause-channel : goal.come_back-requires-clause-channel
come_back-requires-clause-channel g c =
    (stays_after c.close_channel.ensures.call.acts c.close_channel.ensures.ready c.close_channel.ensures.unpinned
    c.in_ok-last.ensures.idle).channels _ c.in_ok-last.ensures.last
