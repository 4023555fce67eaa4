use Rattle.nio_load.specs.Generator.{channel_lines}
use Rattle.nio_load.proofs.Pushing.{pushed_more, pushed_none}
use Rattle.nio_load.proofs.generator.push_channels.Goals as goal

pub loop-channel-init : goal.loop-channel-init
loop-channel-init c = pushed_none channel_lines c.args.text.now.items

pub loop-channel-preserved : goal.loop-channel-preserved
loop-channel-preserved c =
    pushed_more channel_lines c.args.text.now.items c.loop-channel.text.items c.push_channel.new.text.items
    c.loop-channel.channel
    c.loop-channel.invariant c.in_ok-push_channel.ensures
