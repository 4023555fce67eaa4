use Rattle.nio_steps.proofs.PinBack.{no_pin_after}
use Rattle.nio_steps.proofs.PinLaws.{pins_are_given_back}
use Rattle.nio_bench.proofs.SetUp.{stays_after, set_up_after, stays_then}
use Rattle.nio_bench.proofs.channels.cancel_all.Goals as goal

pub returns-in_default : goal.returns-in_default
returns-in_default c =
    let call = c.key_for.ensures in
    let none = no_pin_after (λ acts shape. pins_are_given_back.key_for _ _ acts _ shape) call.call
    c.loop-chan.invariant.idle.unpinned in
    set_up_after c.args.channels.now (stays_after call.call.acts call.ready none c.loop-chan.invariant.idle)
    c.loop-chan.invariant

pub cancel-requires-clause-unpinned : goal.cancel-requires-clause-unpinned
cancel-requires-clause-unpinned c =
    no_pin_after (λ acts shape. pins_are_given_back.key_for _ _ acts _ shape) c.key_for.ensures.call
    c.loop-chan.invariant.idle.unpinned

pub loop-chan-preserved : goal.loop-chan-preserved
loop-chan-preserved c =
    let found = c.key_for.ensures in
    let none = no_pin_after (λ acts shape. pins_are_given_back.key_for _ _ acts _ shape) found.call
    c.loop-chan.invariant.idle.unpinned in
    let first = stays_after found.call.acts found.ready none c.loop-chan.invariant.idle in
    let second = stays_after c.cancel.ensures.call.acts c.cancel.ensures.ready c.cancel.ensures.unpinned first.idle in
    set_up_after c.args.channels.now (stays_then first second) c.loop-chan.invariant
