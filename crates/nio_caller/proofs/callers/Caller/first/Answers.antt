use Rattle.std.proofs.Common.{◌<◌, arith, subst}
use Rattle.nio_words.specs.declared.words.Words.{Words}
use Rattle.nio_caller.specs.Callers.{HasDrawn}
use Rattle.nio_words.specs.Passes.{limits_of}
use Rattle.nio_caller.proofs.Calls.{keeps_none}
use Rattle.nio_caller.proofs.Drawing.{drawn_may_call}
use Rattle.nio_caller.proofs.KeptProgress.{idle_keeps}
use Rattle.nio_caller.proofs.callers.Caller.first.Goals as goal

pub invariant_of-result : goal.invariant_of-result
invariant_of-result g c =
    let table = g.T.Table.table c.args.table in
    let drawn = subst (λ (w : Words). HasDrawn w c.draw_all.new.p (limits_of w).callers) c.words.ensures c.draw_all.ensures in
    let some : 0 < table.limits.callers = omega (arith, table.fit.some_callers) in
    record {
      may = drawn_may_call table c.draw_all.new.p table.limits.callers some drawn;
      lists = keeps_none _ _ c.none.result c.none.ensures;
      goes_on = idle_keeps _ _ c.none-2.result
          (record { selections = c.none-2.ensures.selections; closings = c.none-2.ensures.closings });
    }
