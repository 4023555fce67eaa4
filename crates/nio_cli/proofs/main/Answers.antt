use Rattle.nio_base.specs.Numbers.{first_channel}
use Rattle.nio_cli.proofs.main.Goals as goal

pub run-ended-requires-clause-client_unused : goal.run-ended-requires-clause-client_unused
run-ended-requires-clause-client_unused g c κs = c.in-Ok-make-3.ensures.fresh.unused (first_channel (record { 0 = 0 }))

pub run-ended-requires-clause-target_unused : goal.run-ended-requires-clause-target_unused
run-ended-requires-clause-target_unused g c κs = c.in-Ok-make-3.ensures.fresh.unused (first_channel (record { 0 = 1 }))

pub run-ended-requires-clause-client_free : goal.run-ended-requires-clause-client_free
run-ended-requires-clause-client_free g c κs = record {
  later = λ s above. c.in-Ok-make-3.ensures.fresh.unbound (record { number = record { 0 = 0 }; serial = s });
  vacant = λ s. rw (c.in-Ok-make-3.ensures.fresh.unbound (record { number = record { 0 = 0 }; serial = s })) tt;
}

pub run-ended-requires-clause-target_free : goal.run-ended-requires-clause-target_free
run-ended-requires-clause-target_free g c κs = record {
  later = λ s above. c.in-Ok-make-3.ensures.fresh.unbound (record { number = record { 0 = 1 }; serial = s });
  vacant = λ s. rw (c.in-Ok-make-3.ensures.fresh.unbound (record { number = record { 0 = 1 }; serial = s })) tt;
}

pub run-ended-requires-clause-more : goal.run-ended-requires-clause-more
run-ended-requires-clause-more g c κs = λ i default within. record {
  carried = λ k. record { got = tt; ended = tt; put = tt; shut = tt };
  unasked = c.in-Ok-nets_for.ensures i default within;
}
