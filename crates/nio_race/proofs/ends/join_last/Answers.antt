use Rattle.std.proofs.Common.{◌<◌, ℕ, sym, ◌∙◌, subst}
use Rattle.nio_race.proofs.HaveEach.{same_later}
use Rattle.nio_race.proofs.JoinEnds.{ends_meet, meets_last, none_to_meet, reader_races, sink_there, writer_races}
use Rattle.nio_race.proofs.ends.join_last.Goals as goal

pub take_source-requires : goal.take_source-requires
take_source-requires c = reader_races c.args.racers.now.items c.args.owners c.requires

pub take_sink-requires : goal.take_sink-requires
take_sink-requires c =
    subst (λ (m : ℕ). c.args.owners.writer.0 < m) (sym c.take_source.ensures.rest.count)
    (writer_races c.args.racers.now.items c.args.owners c.requires)

pub returns-in_default-take_sink-clause-met : goal.returns-in_default-take_sink-clause-met
returns-in_default-take_sink-clause-met c =
    none_to_meet c.args.racers.now.items c.take_sink.new.racers.items c.args.owners
    (λ at. sink_there c.args.racers.now.items c.args.owners at
    (c.in-Some.ensures.taken.sinks c.args.owners.writer ∙ c.take_sink.ensures.none c.in_default-take_sink.is))

pub beside-requires : goal.beside-requires
beside-requires c =
    ends_meet c.args.racers.now.items c.take_source.new.racers.items c.take_sink.new.racers.items c.args.owners
    c.in-Some.source c.in-Some-take_sink.sink c.requires c.in-Some.ensures.taken c.in-Some-take_sink.ensures.taken

pub returns-clause-met : goal.returns-clause-met
returns-clause-met c =
    meets_last c.args.racers.now.items c.take_source.new.racers.items c.take_sink.new.racers.items c.args.owners
    c.in-Some.source c.beside.new.self c.in-Some-take_sink.sink c.beside.new.sink
    c.in-Some.ensures.taken c.in-Some-take_sink.ensures.taken
    c.beside.ensures.source c.beside.ensures.sink c.beside.ensures.lawful c.beside.ensures.told

pub returns-clause-rest : goal.returns-clause-rest
returns-clause-rest c =
    same_later c.args.racers.now.items c.take_source.new.racers.items c.take_sink.new.racers.items
    c.take_source.ensures.rest c.take_sink.ensures.rest
