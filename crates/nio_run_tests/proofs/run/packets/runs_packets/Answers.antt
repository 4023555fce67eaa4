use Rattle.nio_base.specs.Numbers.{first_channel}
use Rattle.nio_link.specs.Places.{channel}
use Rattle.nio_run_tests.proofs.run.packets.runs_packets.Goals as goal

pub runs_over-requires-clause-client_unused : goal.runs_over-requires-clause-client_unused
runs_over-requires-clause-client_unused g c κs within = c.in_ok-net.ensures.fresh (first_channel (record { 0 = 0 }))

pub runs_over-requires-clause-target_unused : goal.runs_over-requires-clause-target_unused
runs_over-requires-clause-target_unused g c κs within = c.in_ok-net.ensures.fresh (first_channel (record { 0 = 1 }))

pub runs_over-requires-clause-client_free : goal.runs_over-requires-clause-client_free
runs_over-requires-clause-client_free g c κs within = record {
  later = λ s above. c.in_ok-net.ensures.unbound (channel (record { 0 = 0 }) s);
  vacant = λ s. rw (c.in_ok-net.ensures.unbound (channel (record { 0 = 0 }) s)) tt;
}

pub runs_over-requires-clause-target_free : goal.runs_over-requires-clause-target_free
runs_over-requires-clause-target_free g c κs within = record {
  later = λ s above. c.in_ok-net.ensures.unbound (channel (record { 0 = 1 }) s);
  vacant = λ s. rw (c.in_ok-net.ensures.unbound (channel (record { 0 = 1 }) s)) tt;
}
