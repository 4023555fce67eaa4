use Rattle.std.proofs.Common.{◌≡◌, map, take}
use Rattle.nio_language.specs.Script.{AreCalls}
use Rattle.nio_script.proofs.script.read_calls.Given as goal

abbrev pub invariant-loop-line : goal.invariant-loop-line
invariant-loop-line l =
    (l.number ≡ l.line-index) × AreCalls (take l.line-index (map (λ line. line.now) l.lines)) l.calls.items
