use Rattle.nio_words.specs.Passes.{limits_of}
use Rattle.nio_reactor.specs.Seats.{AreNewcomers}
use Rattle.nio_reactor.proofs.table.open_channels.Given as goal

abbrev pub invariant-loop-number : goal.invariant-loop-number
invariant-loop-number l = AreNewcomers l.words l.pass (limits_of l.words).callers
