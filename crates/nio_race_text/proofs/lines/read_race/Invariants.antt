use Rattle.std.proofs.Common.{◌≡◌, ◌+◌, map, take}
use Rattle.nio_race_text.specs.RaceLines.{AreRaceLines}
use Rattle.nio_race_text.proofs.lines.read_race.Given as goal

abbrev pub invariant-loop-line : goal.invariant-loop-line
invariant-loop-line l =
    (l.number ≡ l.skipped + l.line-index)
    × AreRaceLines (take l.line-index (map (λ line. line.now) l.lines)) l.race.items
