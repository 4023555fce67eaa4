use Rattle.nio_steps.specs.Calls.{PartClause}
use Rattle.nio_steps.specs.Plan.{reply, ◌>>=◌}
use Rattle.nio_steps.specs.SelectCalls.{closed, remove_key, remove_keys}
use Rattle.nio_steps.specs.Sweeps.{sweep_to}
use Rattle.nio_words.specs.Views.{view}
use Rattle.nio_select.proofs.Entered.{MayClear}
use Rattle.nio_select.proofs.closing.remove_keys.Given as goal

abbrev pub invariant-loop-i : goal.invariant-loop-i
invariant-loop-i l =
    MayClear l.w l.p l.me l.sel l.bound
    × PartClause l.me (remove_keys l.sel) (view l.w l.fn.p) (view l.w l.p)
    (sweep_to l.bound l.i (λ i _. remove_key l.sel i) tt >>= λ _. reply closed)
