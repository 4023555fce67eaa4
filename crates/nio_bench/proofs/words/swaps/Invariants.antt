use Rattle.std.specs.Prelude.{IsTrue}
use Rattle.nio_history.specs.Conditions.{has_pin, is_amid}
use Rattle.nio_words.specs.Passes.{IsReady, state_seen}
use Rattle.nio_bench.proofs.words.swaps.Given as goal

abbrev pub invariant-loop-turn : goal.invariant-loop-turn
invariant-loop-turn l =
    IsReady l.words l.p l.me × IsTrue (has_pin (state_seen l.p) l.me l.s 0) × IsTrue (is_amid (state_seen l.p) l.me l.s 0)
