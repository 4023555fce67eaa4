use Rattle.nio_race.proofs.PartPipes.{IsParting}
use Rattle.nio_race.proofs.ends.part_pipes.Given as goal

abbrev pub invariant-loop-owned : goal.invariant-loop-owned
invariant-loop-owned l =
    IsParting l.fn.racers.items l.racers.items l.owners.items l.fn.pipes.items l.owned-iterator.rest.items
