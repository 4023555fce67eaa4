use Rattle.std.proofs.Common.{ℕ, ◌+◌, ◌*◌}
use Rattle.std.specs.Int.{bit_not, w64}
use Rattle.nio_steps.specs.Calls.{PartClause}
use Rattle.nio_steps.specs.Plan.{reply, ◌>>=◌}
use Rattle.nio_steps.specs.Looking.{over_word, look_over}
use Rattle.nio_steps.specs.Sweeps.{sweep_over}
use Rattle.nio_words.specs.Views.{view}
use Rattle.nio_select.specs.Asked.{AreBelow, IsBeside}
use Rattle.nio_select.specs.Begun.{HasBegun}
use Rattle.nio_select.proofs.OverWord.{if_below}
use Rattle.nio_select.proofs.SetBits.{AreLeft, left_from}
use Rattle.nio_select.proofs.beginning.look_over_word.Given as goal

abbrev pub invariant-loop-rest : goal.invariant-loop-rest
invariant-loop-rest l = record {
  passed : ℕ;
  left : AreLeft (bit_not w64 l.word) passed l.rest;
  begun : HasBegun l.w l.p l.me l.sel;
  steps : PartClause l.me (over_word l.sel l.bound (look_over l.sel) l.j l.fn.asked.keys) (view l.w l.fn.p) (view l.w l.p)
      (sweep_over (left_from (bit_not w64 l.word) l.j passed) (if_below l.bound (look_over l.sel)) l.asked.keys
      >>= reply);
  beside : IsBeside l.fn.asked l.asked;
  below : AreBelow (64 * l.j + passed) l.asked.keys;
  within : AreBelow l.bound l.fn.asked.keys → AreBelow l.bound l.asked.keys;
}

abbrev pub decreases-loop-rest : goal.decreases-loop-rest
decreases-loop-rest l = l.rest
