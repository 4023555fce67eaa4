use Rattle.nio_race.proofs.JoinEnds.{IsJoining}
use Rattle.nio_race.proofs.ends.join_ends.Given as goal

abbrev pub decreases-loop-last : goal.decreases-loop-last
decreases-loop-last l = goal.left-loop-last l

abbrev pub invariant-loop-last : goal.invariant-loop-last
invariant-loop-last l = IsJoining l.fn.racers.items l.racers.items l.fn.owners.items l.owners.items
