use Rattle.nio_pipe.proofs.Idle.{may_idle}
use Rattle.nio_table_tests.proofs.pipe.the_numbers_of_a_pipe_come_back.Goals as goal

pub are_answered-requires : goal.are_answered-requires
are_answered-requires g c = may_idle c.in_ok-pipe.ensures.idle c.in_ok-pipe.ensures.ends
