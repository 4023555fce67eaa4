use Rattle.std.proofs.Common.{arith}
use Rattle.nio_reactor.proofs.Ending.{ended_none, ended_one, ended_all}
use Rattle.nio_reactor.proofs.accepting.end_all.Goals as goal

pub loop-worker-init : goal.loop-worker-init
loop-worker-init g c = ended_none c.args.lines.now

pub loop-worker-preserved : goal.loop-worker-preserved
loop-worker-preserved g c =
    ended_one c.loop-worker.worker c.args.lines.now c.loop-worker.lines c.index-lines-worker.result _
    c.loop-worker.invariant (omega (arith, c.loop-worker-test.true, c.loop-worker.invariant.count)) c.send.ensures

pub returns : goal.returns
returns g c =
    ended_all c.loop-worker.worker c.args.lines.now c.loop-worker.lines c.loop-worker.invariant
    (omega (arith, c.loop-worker-test.false))
