use Rattle.std.proofs.Common.{refl}
use Rattle.nio_pool.proofs.BatchLemmas.{goes_further, puts_batch, puts_same}
use Rattle.nio_pool.proofs.worker.Worker.work.Goals as goal

pub loop-preserved-in-Fresh : goal.loop-preserved-in-Fresh
loop-preserved-in-Fresh g c =
    record {
      pass = goes_further _ _ _ _ c.loop.invariant.pass
          (goes_further _ _ _ _ c.in-None-take.ensures.pass
          (goes_further _ _ _ _ c.in-Fresh.ensures.pass c.put_all.ensures.pass));
      put = puts_batch _ _ _ c.in-Fresh.batch
          (puts_same _ _ _ (puts_same _ _ _ c.loop.invariant.put c.in-None-take.ensures.put) c.in-Fresh.ensures.put)
          c.in-Fresh.ensures.batch c.put_all.ensures.put;
    }

pub returns-in-End-clause-drained : goal.returns-in-End-clause-drained
returns-in-End-clause-drained g c = c.in-End.ensures.end refl
