use Rattle.nio_pipe.proofs.Idle.{may_idle}
use Rattle.nio_table_tests.proofs.pipe.a_pipe_in_one_hand.Goals as goal

pub are_answered-requires : goal.are_answered-requires
are_answered-requires g c = may_idle c.in_ok-pipe.ensures.idle c.in_ok-pipe.ensures.ends
