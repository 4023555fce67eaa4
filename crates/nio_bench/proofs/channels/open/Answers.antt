use Rattle.nio_steps.proofs.PinBack.{no_pin_after}
use Rattle.nio_steps.proofs.PinLaws.{pins_are_given_back}
use Rattle.nio_bench.proofs.SetUp.{stays_after, stays_then, set_up_after, one_more}
use Rattle.nio_bench.proofs.channels.open.Goals as goal

pub returns : goal.returns
returns c =
    let opens = c.open_channel.ensures in
    let unpinned = no_pin_after (λ acts shape. pins_are_given_back.open_channel _ _ acts _ shape) opens.call
    c.requires.idle.unpinned in
    let first = stays_after opens.call.acts opens.ready unpinned c.requires.idle in
    let sets = c.try_set_blocking.ensures in
    let still = no_pin_after (λ acts shape. pins_are_given_back.try_set_blocking _ _ _ acts _ shape) sets.call
    first.idle.unpinned in
    let second = stays_after sets.call.acts sets.ready still first.idle in
    one_more c.args.channels.now.items c.push.new.self.items c.in_ok-chan.chan c.in_ok-push.ensures.items
    (second.channels c.in_ok-chan.chan c.in_ok-chan.ensures.made)
    (set_up_after c.args.channels.now.items (stays_then first second) c.requires)
