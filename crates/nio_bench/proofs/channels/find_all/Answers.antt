use Rattle.nio_steps.proofs.PinBack.{no_pin_after}
use Rattle.nio_steps.proofs.PinLaws.{pins_are_given_back}
use Rattle.nio_bench.proofs.SetUp.{stays_after, set_up_after}
use Rattle.nio_bench.proofs.channels.find_all.Goals as goal

pub loop-chan-preserved : goal.loop-chan-preserved
loop-chan-preserved c =
    let call = c.key_for.ensures in
    let none = no_pin_after (λ acts shape. pins_are_given_back.key_for _ _ acts _ shape) call.call
    c.loop-chan.invariant.idle.unpinned in
    set_up_after c.args.channels.now (stays_after call.call.acts call.ready none c.loop-chan.invariant.idle)
    c.loop-chan.invariant
