use Rattle.std.proofs.Common.{ℕ, List, [], ◌∷◌, ◌++◌, ◌∙◌, sym, ap}
use Rattle.nio_pool.specs.Hands.{number}
use Rattle.nio_pool.specs.Batches.{numbers_in}
use Rattle.nio_pool.proofs.BatchLemmas.{come_more, goes_further, numbers_some, numbers_same, put_more}
use Rattle.nio_pool.proofs.worker.Worker.put_all.Goals as goal

pub loop-slot-preserved-in-Some-slot : goal.loop-slot-preserved-in-Some-slot
loop-slot-preserved-in-Some-slot g c =
    record {
      pass = goes_further _ _ _ _ c.loop-slot.invariant.pass c.put_next.ensures.pass;
      put = put_more (numbers_in c.loop-slot.yielded) _ _ _ _ (number c.in-Some-slot.done ∷ [])
          c.loop-slot.invariant.put c.put_next.ensures.put
          (numbers_some c.loop-slot.yielded _ _ c.in-Some-slot.is);
      all = come_more _ _ _ _ _ c.loop-slot.invariant.all c.in-Some.ensures.steps;
    }

pub loop-slot-preserved : goal.loop-slot-preserved
loop-slot-preserved g c =
    record {
      pass = c.loop-slot.invariant.pass;
      put = c.loop-slot.invariant.put
          ∙ ap (λ (ns : List ℕ). c.args.pass.now.hand.put ++ ns) (sym (numbers_same c.loop-slot.yielded _ c.in_default.is));
      all = come_more _ _ _ _ _ c.loop-slot.invariant.all c.in-Some.ensures.steps;
    }
