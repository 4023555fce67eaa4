use Rattle.nio_packet_tests.proofs.loopback.a_number_is_bound_again.Goals as goal

pub binds_again-requires : goal.binds_again-requires
binds_again-requires g c = c.in_ok-net.ensures.fresh.unbound
