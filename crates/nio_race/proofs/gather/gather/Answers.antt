use Rattle.std.proofs.Common.{arith}
use Rattle.nio_race.proofs.Gathering.{all_joined, goes_on, last_passes}
use Rattle.nio_race.proofs.gather.gather.Goals as goal

pub gather_one-requires-clause-racer : goal.gather_one-requires-clause-racer
gather_one-requires-clause-racer c =
    last_passes c.args.w.now c.loop-racer.racers.items c.pop.new.self.items c.in-Some.racer
    c.loop-racer.invariant.passes c.in-Some.ensures.items

pub loop-racer-preserved : goal.loop-racer-preserved
loop-racer-preserved c =
    goes_on c.args.w.now c.args.p.now c.loop-racer.p c.gather_one.new.p c.args.racers.items c.loop-racer.racers.items
    c.pop.new.self.items c.in-Some.racer
    c.loop-racer.invariant c.in-Some.ensures.items c.gather_one.ensures.pass c.gather_one.ensures.own
    c.gather_one.ensures.other

pub returns-clause-each : goal.returns-clause-each
returns-clause-each c =
    all_joined c.args.w.now c.args.p.now c.loop-racer.p c.args.racers.items c.loop-racer.racers.items
    c.loop-racer.invariant (omega (arith, c.in_default.ensures.cases))
