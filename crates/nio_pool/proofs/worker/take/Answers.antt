use Rattle.nio_pool.proofs.Whole.{none_drained}
use Rattle.nio_pool.proofs.worker.take.Goals as goal

pub returns-clause-drained : goal.returns-clause-drained
returns-clause-drained g c =
    none_drained _ c.args.queue.now c.args.pass.now c.take.new.pass c.take.ensures.exact c.take.ensures.unchanged
