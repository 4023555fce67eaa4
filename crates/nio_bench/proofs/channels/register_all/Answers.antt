use Rattle.nio_bench.proofs.SetUp.{stays_after, set_up_after}
use Rattle.nio_bench.proofs.channels.register_all.Goals as goal

pub loop-chan-preserved : goal.loop-chan-preserved
loop-chan-preserved c =
    let call =
    c.try_register.ensures in
    set_up_after c.args.channels.now
    (stays_after call.call.acts call.ready call.unpinned c.loop-chan.invariant.idle) c.loop-chan.invariant
