use Rattle.std.proofs.Common.{arith}
use Rattle.std.proofs.lemmas.List.{nil_from_length}
use Rattle.nio_race.proofs.JoinEnds.{all_joined, begins, one_joined, one_to_join}
use Rattle.nio_race.proofs.ends.join_ends.Goals as goal

pub loop-last-init : goal.loop-last-init
loop-last-init c = begins c.args.racers.now.items c.args.owners.items c.requires

pub join_last-requires : goal.join_last-requires
join_last-requires c =
    one_to_join c.args.racers.now.items c.loop-last.racers.items c.args.owners.items c.loop-last.owners.items
    c.pop.new.self.items c.in-Some.last c.loop-last.invariant c.in-Some.ensures.items

pub loop-last-preserved : goal.loop-last-preserved
loop-last-preserved c =
    one_joined c.args.racers.now.items c.loop-last.racers.items c.join_last.new.racers.items c.args.owners.items
    c.loop-last.owners.items c.pop.new.self.items c.in-Some.last c.loop-last.invariant c.in-Some.ensures.items
    c.join_last.ensures.met c.join_last.ensures.rest

pub returns-clause-met : goal.returns-clause-met
returns-clause-met c =
    all_joined c.args.racers.now.items c.loop-last.racers.items c.args.owners.items c.loop-last.owners.items
    c.loop-last.invariant (nil_from_length c.loop-last.owners.items (omega (arith, c.in_default.ensures.cases)))
