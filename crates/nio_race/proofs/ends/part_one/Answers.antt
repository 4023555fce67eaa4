use Rattle.std.proofs.Common.{◌==◌, if◌then◌else◌, [], ◌∷◌, ◌++◌, refl, ap, ◌∙◌}
use Rattle.nio_race.proofs.HaveEach.{same_later}
use Rattle.nio_race.proofs.ends.part_one.Goals as goal

pub returns-in_err-give_sink-clause-rest : goal.returns-in_err-give_sink-clause-rest
returns-in_err-give_sink-clause-rest c =
    same_later c.args.racers.now.items c.give_source.new.racers.items c.give_sink.new.racers.items
    c.give_source.ensures.rest c.give_sink.ensures.rest

pub returns-clause-parted : goal.returns-clause-parted
returns-clause-parted c =
    let sink = c.in-Ok.sink in
    record {
      reader = refl;
      writer = refl;
      source = c.in-Ok.source;
      sink = sink;
      parts = c.in-Ok.ensures.parts;
      sources = λ n. c.in_ok-give_sink.ensures.given.sources n ∙ c.in_ok-give_source.ensures.given.sources n;
      sinks = λ n. c.in_ok-give_sink.ensures.given.sinks n
          ∙ ap (λ sinks. sinks ++ (if c.args.owned.writer.0 == n.0 then sink ∷ [] else []))
          (c.in_ok-give_source.ensures.given.sinks n);
    }

pub returns-clause-rest : goal.returns-clause-rest
returns-clause-rest c =
    same_later c.args.racers.now.items c.give_source.new.racers.items c.give_sink.new.racers.items
    c.give_source.ensures.rest c.give_sink.ensures.rest
