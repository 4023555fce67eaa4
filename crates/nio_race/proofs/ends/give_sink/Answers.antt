use Rattle.std.proofs.Common.{◌∷◌, [], refl}
use Rattle.nio_race.proofs.HaveEach.{at_more, at_same, same_but_one}
use Rattle.nio_race.specs.declared.racer.Racer.{Racer}
use Rattle.nio_race.proofs.ends.give_sink.Goals as goal

pub returns-in_err-push-clause-rest : goal.returns-in_err-push-clause-rest
returns-in_err-push-clause-rest c =
    let r : Racer = c.index_mut.result.now in
    same_but_one c.args.racers.now.items c.args.caller.0 r
    (record r { ends = record { sources = r.ends.sources; sinks = c.push.new.self } })
    c.requires c.index_mut.ensures.value refl

pub returns-clause-rest : goal.returns-clause-rest
returns-clause-rest c =
    let r : Racer = c.index_mut.result.now in
    same_but_one c.args.racers.now.items c.args.caller.0 r
    (record r { ends = record { sources = r.ends.sources; sinks = c.push.new.self } })
    c.requires c.index_mut.ensures.value refl

pub returns-clause-given : goal.returns-clause-given
returns-clause-given c =
    let r : Racer = c.index_mut.result.now in
    let r' : Racer = record r { ends = record { sources = r.ends.sources; sinks = c.push.new.self } } in
    record {
      sources = λ n. at_same (λ (x : Racer). x.ends.sources.items) c.args.racers.now.items c.args.caller.0 r r' n.0
          c.requires c.index_mut.ensures.value refl;
      sinks = λ n. at_more (λ (x : Racer). x.ends.sinks.items) c.args.racers.now.items c.args.caller.0 r r' n.0
          (c.args.sink ∷ []) c.requires c.index_mut.ensures.value c.in_ok-push.ensures.items;
    }
