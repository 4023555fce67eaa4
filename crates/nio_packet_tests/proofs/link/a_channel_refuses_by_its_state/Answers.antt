use Rattle.nio_datagram.proofs.PlaceLaws.{free_first}
use Rattle.nio_packet_tests.proofs.Stands.{connect_stands, stands_first, stands_free}
use Rattle.nio_packet_tests.proofs.link.a_channel_refuses_by_its_state.Goals as goal

pub bind-requires : goal.bind-requires
bind-requires g c = λ is.
    let made = stands_first c.make-link.result _ _ c.make-link.ensures c.in_ok-net.ensures.unbound in
    stands_free _ _ _ (c.send.ensures.stands made) is

pub bind-requires-2 : goal.bind-requires-2
bind-requires-2 g c = λ is.
    let made = stands_first c.make-link.result _ _ c.make-link.ensures c.in_ok-net.ensures.unbound in
    stands_free _ _ _ (c.bind.ensures.stands (c.send.ensures.stands made)) is

pub bind-requires-3 : goal.bind-requires-3
bind-requires-3 g c = λ is.
    let made = stands_first c.make-link.result _ _ c.make-link.ensures c.in_ok-net.ensures.unbound in
    let bound = c.bind-2.ensures.stands (c.bind.ensures.stands (c.send.ensures.stands made)) in
    let connected = connect_stands _ _ _ _ _ _ c.connect.ensures bound in
    let again = connect_stands _ _ _ _ _ _ c.connect-2.ensures connected in
    stands_free _ _ _ (c.close-closed.ensures.stands again) is

pub bind-requires-4 : goal.bind-requires-4
bind-requires-4 g c = λ is. free_first _ _ c.in_ok-without.ensures.unbound
