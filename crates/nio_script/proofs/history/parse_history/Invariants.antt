use Rattle.std.proofs.Common.{◌≡◌, map, take}
use Rattle.nio_script.specs.History.{AreEntries}
use Rattle.nio_script.specs.HistoryCall.{entry_of}
use Rattle.nio_script.proofs.history.parse_history.Given as goal

abbrev pub invariant-loop-line : goal.invariant-loop-line
invariant-loop-line l =
    (l.number ≡ l.line-index)
    × AreEntries l.rules 1 (take l.line-index (map (λ line. line.now) l.line-items)) (map entry_of l.calls.items)
