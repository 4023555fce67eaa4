use Rattle.std.specs.Prelude.{IsTrue}
use Rattle.nio_words.specs.Passes.{IsReady, state_seen}
use Rattle.nio_bench.proofs.words.wakes.Given as goal

abbrev pub invariant-loop : goal.invariant-loop
invariant-loop l = IsReady l.words l.p l.me × IsTrue ((state_seen l.p).selector l.s.0)
