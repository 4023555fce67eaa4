use Rattle.std.proofs.Common.{arith}
use Rattle.std.proofs.lemmas.List.{nil_from_length}
use Rattle.nio_race.proofs.HaveEach.{same_later}
use Rattle.nio_race.proofs.PartPipes.{all_parted, begins, next_has_racers, one_parted}
use Rattle.nio_race.proofs.ends.part_pipes.Goals as goal

pub loop-owned-init : goal.loop-owned-init
loop-owned-init c =
    begins c.args.racers.now.items c.in_ok-owners.owners.items c.args.pipes.items
    c.into_iter-owned-iterator.result.rest.items c.requires.endless c.in_ok-owners.ensures.items
    c.into_iter-owned-iterator.ensures.into_iter_gives.0

pub part_one-requires : goal.part_one-requires
part_one-requires c =
    next_has_racers c.args.racers.now.items c.loop-owned.racers.items c.loop-owned.owners.items c.args.pipes.items
    c.loop-owned.owned-iterator.rest.items c.next.new.self.rest.items c.in-Some.owned c.loop-owned.invariant
    c.in-Some.ensures.steps.0 c.requires.racers

pub returns-in_err-part_one-clause-rest : goal.returns-in_err-part_one-clause-rest
returns-in_err-part_one-clause-rest c =
    same_later c.args.racers.now.items c.loop-owned.racers.items c.part_one.new.racers.items
    c.loop-owned.invariant.same c.part_one.ensures.rest

pub returns-in_err-push-clause-rest : goal.returns-in_err-push-clause-rest
returns-in_err-push-clause-rest c =
    same_later c.args.racers.now.items c.loop-owned.racers.items c.part_one.new.racers.items
    c.loop-owned.invariant.same c.part_one.ensures.rest

pub loop-owned-preserved : goal.loop-owned-preserved
loop-owned-preserved c =
    one_parted c.args.racers.now.items c.loop-owned.racers.items c.part_one.new.racers.items
    c.loop-owned.owners.items c.push.new.self.items c.args.pipes.items c.loop-owned.owned-iterator.rest.items
    c.next.new.self.rest.items c.in-Some.owned c.in_ok-part_one.field-0 c.loop-owned.invariant c.in-Some.ensures.steps.0
    c.in_ok-part_one.ensures.parted c.part_one.ensures.rest c.in_ok-push.ensures.items

pub returns-clause-parted : goal.returns-clause-parted
returns-clause-parted c =
    all_parted c.args.racers.now.items c.loop-owned.racers.items c.loop-owned.owners.items c.args.pipes.items
    c.loop-owned.owned-iterator.rest.items c.loop-owned.invariant
    (nil_from_length c.loop-owned.owned-iterator.rest.items (omega (arith, c.in-None.ensures.steps)))
