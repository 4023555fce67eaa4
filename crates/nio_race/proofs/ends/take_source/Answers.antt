use Rattle.std.proofs.Common.{option_to_list, refl, sym}
use Rattle.nio_race.proofs.HaveEach.{at_less, at_same, same_but_one}
use Rattle.nio_race.specs.declared.racer.Racer.{Racer}
use Rattle.nio_race.proofs.ends.take_source.Goals as goal

pub returns-clause-rest : goal.returns-clause-rest
returns-clause-rest c =
    let r : Racer = c.index_mut.result.now in
    same_but_one c.args.racers.now.items c.args.caller.0 r
    (record r { ends = record { sources = c.pop.new.self; sinks = r.ends.sinks } })
    c.requires c.index_mut.ensures.value refl

pub returns-clause-taken : goal.returns-clause-taken
returns-clause-taken c =
    let r : Racer = c.index_mut.result.now in
    let r' : Racer = record r { ends = record { sources = c.pop.new.self; sinks = r.ends.sinks } } in
    record {
      sources = λ n. at_less (λ (x : Racer). x.ends.sources.items) c.args.racers.now.items c.args.caller.0 r r' n.0
          (option_to_list c.pop.result) c.requires c.index_mut.ensures.value c.pop.ensures.items;
      sinks = λ n. sym (at_same (λ (x : Racer). x.ends.sinks.items) c.args.racers.now.items c.args.caller.0 r r' n.0
          c.requires c.index_mut.ensures.value refl);
    }
