use Rattle.nio_datagram.specs.Serving.{client_chan, target_chan}
use Rattle.nio_datagram.proofs.PlaceLaws.{free_first}
use Rattle.nio_packet_tests.proofs.relay.is_served_late.Goals as goal

pub serve_packets-answer-requires-clause-client_unused : goal.serve_packets-answer-requires-clause-client_unused
serve_packets-answer-requires-clause-client_unused g c =
    rw (c.over-net.ensures) (c.in_ok-net_of.ensures.fresh client_chan)

pub serve_packets-answer-requires-clause-target_unused : goal.serve_packets-answer-requires-clause-target_unused
serve_packets-answer-requires-clause-target_unused g c =
    rw (c.over-net.ensures) (c.in_ok-net_of.ensures.fresh target_chan)

pub serve_packets-answer-requires-clause-client_free : goal.serve_packets-answer-requires-clause-client_free
serve_packets-answer-requires-clause-client_free g c =
    rw (c.over-net.ensures) (free_first _ client_chan c.in_ok-net_of.ensures.unbound)

pub serve_packets-answer-requires-clause-target_free : goal.serve_packets-answer-requires-clause-target_free
serve_packets-answer-requires-clause-target_free g c =
    rw (c.over-net.ensures) (free_first _ target_chan c.in_ok-net_of.ensures.unbound)
