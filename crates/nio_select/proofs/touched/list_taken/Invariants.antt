use Rattle.std.proofs.Common.{◌≡◌, ℕ, ◌+◌, ◌*◌, ◌++◌}
use Rattle.nio_steps.specs.Calls.{PartClause}
use Rattle.nio_steps.specs.Looking.{list_over, list_taken, shown}
use Rattle.nio_steps.specs.Plan.{reply, ◌>>=◌}
use Rattle.nio_steps.specs.Sweeps.{sweep_over}
use Rattle.nio_words.specs.Passes.{limits_of}
use Rattle.nio_words.specs.Views.{view}
use Rattle.nio_select.specs.Asked.{IsBeside}
use Rattle.nio_select.specs.Begun.{HasBegunListed}
use Rattle.nio_select.specs.Touched.{TakesOn}
use Rattle.nio_select.proofs.SetBits.{AreLeft, left_from}
use Rattle.nio_select.proofs.TakenBits.{TookWord}
use Rattle.nio_select.proofs.touched.list_taken.Given as goal

abbrev pub invariant-loop-rest : goal.invariant-loop-rest
invariant-loop-rest l = record {
  passed : ℕ;
  left : AreLeft l.word passed l.rest;
  begun : HasBegunListed l.w l.p l.me l.sel;
  beside : IsBeside l.fn.asked l.asked;
  on : TakesOn (64 * l.j + passed) (limits_of l.w).keys l.fn.asked l.asked;
  shows : l.asked.changed ++ left_from l.word l.j passed ≡ l.fn.asked.changed ++ shown l.word l.j 64;
  took : TookWord l.sel l.me l.j l.word (view l.w l.fn.p) (view l.w l.p);
  steps : PartClause l.me (list_taken l.sel l.j l.fn.asked.keys) (view l.w l.fn.p) (view l.w l.p)
      (sweep_over (left_from l.word l.j passed) (list_over l.sel) l.asked.keys >>= reply);
}

abbrev pub decreases-loop-rest : goal.decreases-loop-rest
decreases-loop-rest l = l.rest
