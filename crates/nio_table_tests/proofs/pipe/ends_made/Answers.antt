use Rattle.nio_channel.proofs.Idle.{idle_after}
use Rattle.nio_table_tests.proofs.pipe.ends_made.Goals as goal

pub returns-clause-idle : goal.returns-clause-idle
returns-clause-idle c = idle_after c.pipe.ensures.call.acts c.pipe.ensures.ready.pass c.pipe.ensures.unpinned c.requires
