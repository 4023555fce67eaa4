use Rattle.std.proofs.Common.{inl}
use Rattle.nio_channel.specs.Idle.{zero}
use Rattle.nio_table_tests.proofs.words.threads.both_take_and_put.Goals as goal

pub look_free-requires-clause-ready : goal.look_free-requires-clause-ready
look_free-requires-clause-ready g c =
    record { pass = c.join.ensures.pass; number = (c.join.ensures.numbers zero).1 (inl c.join-p.ensures.first.number) }
