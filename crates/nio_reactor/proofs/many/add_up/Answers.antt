use Rattle.std.proofs.Common.{◌≢◌, ◌+◌, Some, Err, refl, sym, ap, rules, ◌∙◌, arith}
use Rattle.std.proofs.lemmas.Option.{slice_get-get_or}
use Rattle.nio_serve.specs.declared.serving.ServeError.TheVariants.{Memory}
use Rattle.nio_reactor.proofs.Adding.{adds_one, adds_end, few_in_all, few_more}
use Rattle.nio_reactor.proofs.Lists.{at_each}
use Rattle.nio_reactor.proofs.many.add_up.Goals as goal

pub returns-in-Err-NetFault : goal.returns-in-Err-NetFault
returns-in-Err-NetFault g c = record {
  worker = c.loop-worker.worker-index;
  lane = c.worker-item.result;
  is = slice_get-get_or c.args.workers.now c.loop-worker.worker-index c.worker-item.result c.loop-worker-test.true
      ∙ ap Some (sym c.worker-item.is);
  reason_is = search (rules, c.in-Err-NetFault.is, c.in-Err-NetFault.field-0-is);
}

pub unreachable-requires : goal.unreachable-requires
unreachable-requires g c =
    at_each (λ x. x.lane.outcome ≢ Err Memory) c.args.workers.now c.loop-worker.worker-index c.worker-item.result
    c.requires.memory c.loop-worker-test.true c.worker-item.is
    (search (rules, c.in-Err-Memory.is, c.in-Err-Memory.field-0-is))

pub overflow_add-faults : goal.overflow_add-faults
overflow_add-faults g c =
    let at = slice_get-get_or c.args.workers.now c.loop-worker.worker-index c.worker-item.result c.loop-worker-test.true
    ∙ ap Some (sym c.worker-item.is) in
    let few = few_in_all c.args.conns c.args.workers.now (c.loop-worker.worker-index + 1)
    (c.loop-worker.faults + c.in-Ok.served.faults)
    (few_more (λ x. x.lane.outcome) c.args.conns c.args.workers.now c.loop-worker.worker-index c.loop-worker.faults
    c.worker-item.result c.in-Ok.served c.requires.faults at c.in-Ok.is c.loop-worker.invariant.few) in
    omega (arith, few, c.ranges.conns.fits)

pub loop-worker-preserved : goal.loop-worker-preserved
loop-worker-preserved g c =
    let at = slice_get-get_or c.args.workers.now c.loop-worker.worker-index c.worker-item.result c.loop-worker-test.true
    ∙ ap Some (sym c.worker-item.is) in
    record {
      so_far = adds_one _ c.args.workers.now c.loop-worker.worker-index c.loop-worker.faults _ c.worker-item.result
          c.in-Ok.served c.loop-worker.invariant.so_far at c.in-Ok.is refl;
      few = few_more (λ x. x.lane.outcome) c.args.conns c.args.workers.now c.loop-worker.worker-index
          c.loop-worker.faults c.worker-item.result c.in-Ok.served c.requires.faults at c.in-Ok.is
          c.loop-worker.invariant.few;
    }

pub returns : goal.returns
returns g c =
    adds_end _ c.args.workers.now c.loop-worker.worker-index c.args.conns _ c.loop-worker.invariant.so_far
    (omega (arith, c.loop-worker-test.false, c.loop-worker.auto.worker-index-end)) refl
