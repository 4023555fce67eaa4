use Rattle.nio_run_tests.proofs.run.loopback.relay.Goals as goal

pub runs_with-requires-clause-more : goal.runs_with-requires-clause-more
runs_with-requires-clause-more g c κs within = λ i default within. record {
  carried = λ k. record { got = tt; ended = tt; put = tt; shut = tt };
  unasked = c.in_ok-more.ensures i default within;
}
