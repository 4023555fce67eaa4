use Rattle.std.proofs.Common.{subst, sym}
use Rattle.nio_history.proofs.PassViews.{channel_after}
use Rattle.nio_history.specs.PassViews.{HasChannel}
use Rattle.nio_pipe.proofs.Idle.{may_after, may_same}
use Rattle.nio_words.specs.Views.{view}
use Rattle.nio_table_tests.proofs.pipe.writes_and_ends.Goals as goal

pub write-second-requires-clause-ends : goal.write-second-requires-clause-ends
write-second-requires-clause-ends g c =
    let first = c.write-first.ensures in
    (may_same first.same.other first.same.channel
    (may_after first.call.acts first.ready first.unpinned c.requires.idle)).ends

pub close_channel-requires-clause-channel : goal.close_channel-requires-clause-channel
close_channel-requires-clause-channel g c =
    channel_after c.write-second.ensures.call.acts
    (channel_after c.write-first.ensures.call.acts
    (subst (HasChannel (view c.args.w.now c.args.q)) (sym c.requires.source) c.requires.idle.ends.source))
