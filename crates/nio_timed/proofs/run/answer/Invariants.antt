use Rattle.std.proofs.Common.{◌≡◌, ◌+◌, ◌++◌, drop}
use Rattle.nio_timed.specs.Called.{timed_answer_from, timed_answer_to}
use Rattle.nio_timed.proofs.run.answer.Given as goal

abbrev pub invariant-loop-index : goal.invariant-loop-index
invariant-loop-index l =
    l.history.items ++ timed_answer_from l.timed (l.index + 1) (drop l.index l.calls) ≡ timed_answer_to l.calls
