use Rattle.nio_words.specs.Passes.{IsReady}
use Rattle.nio_bench.proofs.words.looks.Given as goal

abbrev pub invariant-loop : goal.invariant-loop
invariant-loop l = IsReady l.words l.p l.me
