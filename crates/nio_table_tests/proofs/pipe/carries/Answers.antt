use Rattle.nio_pipe.proofs.Idle.{pair_read, pair_written}
use Rattle.nio_table_tests.proofs.pipe.carries.Goals as goal

pub beside-requires : goal.beside-requires
beside-requires g c = pair_written c.join-source.ensures.second (pair_read c.join-source.ensures.first c.requires.ends)
