use Rattle.nio_channel.proofs.Idle.{idle_after}
use Rattle.nio_table_tests.proofs.pipe.made.Goals as goal

pub returns-clause-idle : goal.returns-clause-idle
returns-clause-idle c =
    idle_after c.held_pipe.ensures.call.acts c.held_pipe.ensures.ready.pass c.held_pipe.ensures.unpinned c.requires
