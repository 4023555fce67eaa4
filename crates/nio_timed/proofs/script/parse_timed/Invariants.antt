use Rattle.std.proofs.Common.{◌≡◌, map, take}
use Rattle.nio_timed.specs.Lines.{AreTimedLines}
use Rattle.nio_timed.proofs.script.parse_timed.Given as goal

abbrev pub invariant-loop-line : goal.invariant-loop-line
invariant-loop-line l =
    (l.number ≡ l.line-index) × AreTimedLines (take l.line-index (map (λ line. line.now) l.line-items)) l.calls.items
