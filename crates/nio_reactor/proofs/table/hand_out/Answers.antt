use Rattle.std.proofs.Common.{◌∙◌, refl}
use Rattle.nio_reactor.proofs.Seating.{begins_handing_out, goes_on_handing_out}
use Rattle.nio_reactor.proofs.table.hand_out.Goals as goal

pub loop-worker-init : goal.loop-worker-init
loop-worker-init c = record {
  handing = begins_handing_out c.args.words.now c.args.pass.now c.in_ok-passes.passes.items c.args.workers
      c.requires.callers c.in_ok-passes.ensures.items;
  room = refl;
}

pub loop-worker-preserved : goal.loop-worker-preserved
loop-worker-preserved c = record {
  handing = goes_on_handing_out c.args.words.now c.loop-worker.pass c.hand_over.new.p c.in-Ok.given
      c.loop-worker.passes.items c.push_reserved.new.self.items c.loop-worker.worker c.args.workers
      c.loop-worker-test.true c.loop-worker.invariant.handing c.in-Ok.ensures c.push_reserved.ensures.items;
  room = c.push_reserved.ensures.capacity ∙ c.loop-worker.invariant.room;
}
