use Rattle.nio_datagram.specs.Serving.{client_chan, target_chan}
use Rattle.nio_datagram.proofs.PlaceLaws.{free_first}
use Rattle.nio_packet_tests.proofs.loopback.relay.Goals as goal

pub serve_packets-requires-clause-client_unused : goal.serve_packets-requires-clause-client_unused
serve_packets-requires-clause-client_unused g c = c.in_ok-net.ensures.fresh.unused client_chan

pub serve_packets-requires-clause-target_unused : goal.serve_packets-requires-clause-target_unused
serve_packets-requires-clause-target_unused g c = c.in_ok-net.ensures.fresh.unused target_chan

pub serve_packets-requires-clause-client_free : goal.serve_packets-requires-clause-client_free
serve_packets-requires-clause-client_free g c = free_first _ client_chan c.in_ok-net.ensures.fresh.unbound

pub serve_packets-requires-clause-target_free : goal.serve_packets-requires-clause-target_free
serve_packets-requires-clause-target_free g c = free_first _ target_chan c.in_ok-net.ensures.fresh.unbound
