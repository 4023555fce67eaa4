use Rattle.std.proofs.Common.{Some, sym, ap, rules, ◌∙◌, arith}
use Rattle.std.proofs.lemmas.Option.{slice_get-get_or}
use Rattle.std.proofs.lemmas.Grind.{common_steps}
use Rattle.nio_serve.specs.declared.serving.ServeError.TheVariants.{Memory}
use Rattle.nio_reactor.proofs.Adding.{none_end, none_one}
use Rattle.nio_reactor.proofs.many.lacks_memory.Goals.{in-Err+in-NetFault-1, in-Ok-1}
use Rattle.nio_reactor.proofs.many.lacks_memory.Goals as goal

pub returns-in-Err-Memory-clause-some : goal.returns-in-Err-Memory-clause-some
returns-in-Err-Memory-clause-some g c = λ yes. record {
  worker = c.loop-worker.worker-index;
  lane = c.worker-item.result;
  is = slice_get-get_or c.args.workers.now c.loop-worker.worker-index c.worker-item.result c.loop-worker-test.true
      ∙ ap Some (sym c.worker-item.is);
  reason_is = search (rules, c.in-Err-Memory.is, c.in-Err-Memory.field-0-is);
}

pub loop-worker-preserved : goal.loop-worker-preserved
loop-worker-preserved g c =
    none_one Memory (λ x. x.lane.outcome) c.args.workers.now c.loop-worker.worker-index c.worker-item.result c.loop-worker.invariant
    (slice_get-get_or c.args.workers.now c.loop-worker.worker-index c.worker-item.result c.loop-worker-test.true
    ∙ ap Some (sym c.worker-item.is))
    (elim c.match-worker.branch [
      | in-Err+in-NetFault-1 w ↦ search rules
      | in-Ok-1 w ↦ λ is. grind (arith, common_steps)
    ])

pub returns-clause-none : goal.returns-clause-none
returns-clause-none g c = λ no.
    none_end Memory (λ x. x.lane.outcome) c.args.workers.now c.loop-worker.worker-index c.loop-worker.invariant
    (omega (arith, c.loop-worker-test.false, c.loop-worker.auto.worker-index-end))
