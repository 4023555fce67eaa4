use Rattle.std.proofs.Common.{refl, sym}
use Rattle.nio_pool.proofs.MoveLemmas.{moves_back, moves_one}
use Rattle.nio_pool.proofs.queue.CompletionQueue.move_from.Goals as goal

pub loop-preserved : goal.loop-preserved
loop-preserved g c =
    record {
      pass = c.in-Ok.ensures.pass;
      so = moves_one _ _ _ _ _ _ _ _ c.in-Some-take.done c.loop.invariant.so (sym c.in-Some-take.ensures.answer)
          c.in-Some-take.ensures.after c.in-Ok.ensures.put c.saturating_add.ensures refl;
    }

pub returns-in-Err-clause-moves : goal.returns-in-Err-clause-moves
returns-in-Err-clause-moves g c =
    moves_back _ _ _ _ _ _ _ _ c.in-Some-take.done c.in-Err.back c.loop.invariant.so
    (sym c.in-Some-take.ensures.answer) c.in-Some-take.ensures.after c.in-Err.ensures.unchanged c.in-Err.ensures.back
    refl refl
