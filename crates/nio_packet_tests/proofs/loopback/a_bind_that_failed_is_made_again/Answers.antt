use Rattle.nio_datagram.proofs.PlaceLaws.{free_first}
use Rattle.nio_packet_tests.proofs.Stands.{stands_first, stands_free}
use Rattle.nio_packet_tests.proofs.loopback.a_bind_that_failed_is_made_again.Goals as goal

pub bind-requires-2 : goal.bind-requires-2
bind-requires-2 g c = λ is. free_first _ _ c.in_ok-net.ensures.fresh.unbound

pub bind-requires-3 : goal.bind-requires-3
bind-requires-3 g c = λ is.
    stands_free _ _ _ (c.bind-2.ensures.stands
    (stands_first c.make-link.result _ _ c.make-link.ensures c.in_ok-net.ensures.fresh.unbound)) is
