use Rattle.std.proofs.Common.{sym, arith}
use Rattle.std.proofs.lemmas.List.{append-nil}
use Rattle.nio_reactor.proofs.Handing.{put_all, put_more}
use Rattle.nio_reactor.proofs.many.list_handovers.Goals as goal

pub loop-worker-init : goal.loop-worker-init
loop-worker-init g c = sym (append-nil c.args.handed.now)

pub loop-worker-preserved : goal.loop-worker-preserved
loop-worker-preserved g c =
    put_more (λ x. x.lane.put) c.args.workers.now.items c.deref-worker-items.result.now c.loop-worker.worker-index
    c.worker-item.result c.args.handed.now c.loop-worker.handed c.extend_from.new.self
    c.deref-worker-items.ensures.value c.loop-worker-test.true c.worker-item.is c.loop-worker.invariant
    c.extend_from.ensures

pub returns : goal.returns
returns g c =
    put_all (λ x. x.lane.put) c.args.workers.now.items c.deref-worker-items.result.now c.loop-worker.worker-index
    c.args.handed.now c.loop-worker.handed c.deref-worker-items.ensures.value c.loop-worker.invariant
    (omega (arith, c.loop-worker-test.false, c.loop-worker.auto.worker-index-end))
