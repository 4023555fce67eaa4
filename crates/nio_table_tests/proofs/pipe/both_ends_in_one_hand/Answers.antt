use Rattle.nio_pipe.proofs.Idle.{may_idle}
use Rattle.nio_table_tests.proofs.pipe.both_ends_in_one_hand.Goals as goal

pub are_answered_at_ends-requires : goal.are_answered_at_ends-requires
are_answered_at_ends-requires g c =
    record {
      may = may_idle c.in_ok-source.ensures.idle c.in_ok-source.ensures.channels;
      pair = c.in_ok-source.ensures.ends;
    }
