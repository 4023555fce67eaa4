use Rattle.std.proofs.Common.{inl}
use Rattle.nio_channel.specs.Idle.{zero}
use Rattle.nio_table_tests.proofs.tables.is_invalid.Goals as goal

pub look_key-stage-requires-clause-ready : goal.look_key-stage-requires-clause-ready
look_key-stage-requires-clause-ready c =
    record { pass = c.join.ensures.pass; number = (c.join.ensures.numbers zero).1 (inl c.requires.first.number) }
