use Rattle.nio_race.proofs.Gathering.{IsGathering}
use Rattle.nio_race.proofs.gather.gather.Given as goal

abbrev pub decreases-loop-racer : goal.decreases-loop-racer
decreases-loop-racer l = goal.left-loop-racer l

abbrev pub invariant-loop-racer : goal.invariant-loop-racer
invariant-loop-racer l = IsGathering l.w l.initial.p l.p l.initial.racers.items l.racers.items
