use Rattle.std.proofs.Common.{◌-◌}
use Rattle.nio_race.specs.Racers.{replies_by}
use Rattle.nio_race.proofs.Adding.{IsAddingCallers}
use Rattle.nio_race.proofs.output.add_callers.Given as goal

abbrev pub invariant-loop-number : goal.invariant-loop-number
invariant-loop-number l =
    IsAddingCallers l.race (replies_by l.race l.racers) 64 l.number (64 - l.number) l.initial.text.items l.text.items
