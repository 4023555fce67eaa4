use Rattle.nio_pipe.proofs.Idle.{may_same}
use Rattle.nio_table_tests.proofs.pipe.parted.Goals as goal

pub returns : goal.returns
returns c =
    let parts = c.in-Ok.ensures.parts in
    record { may = may_same parts.source_channel parts.sink_channel c.requires; pair = parts.ends }
