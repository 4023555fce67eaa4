use Rattle.std.proofs.Common.{◌<◌, ◌≤◌, List, Option, length, sym, subst, take_all, arith}
use Rattle.std.proofs.lemmas.List.{length-set, take_more_set}
use Rattle.nio_group.specs.Completion.{CompletionFields}
use Rattle.nio_pool.specs.Batches.{TakesInto}
use Rattle.nio_pool.proofs.BatchLemmas.{takes_more}
use Rattle.nio_pool.proofs.worker.next_batch.Goals as goal

pub loop-slot-preserved : goal.loop-slot-preserved
loop-slot-preserved c =
    let count = c.loop-slot.invariant.count in
    let below : c.loop-slot.slot-index < length c.loop-slot.slot-items = omega arith in
    record {
      taken = subst (λ (slots : List (Option CompletionFields)). TakesInto slots c.args.core.now c.take.new.self)
          (sym (take_more_set c.loop-slot.slot-items c.loop-slot.slot-index _ below))
          (takes_more _ _ _ _ _ c.loop-slot.invariant.taken c.take.ensures.answer c.take.ensures.after);
      count = omega (arith, length-set {A = Option CompletionFields});
    }

taken : goal.returns-clause-takes
taken c =
    let count = c.loop-slot.invariant.count in
    let end : length c.loop-slot.slot-items ≤ c.loop-slot.slot-index = omega arith in
    subst (λ (slots : List (Option CompletionFields)). TakesInto slots c.args.core.now c.loop-slot.core)
    (take_all c.loop-slot.slot-index c.loop-slot.slot-items end) c.loop-slot.invariant.taken

pub returns-clause-takes : goal.returns-clause-takes
returns-clause-takes c = taken c

pub returns-clause-batch : goal.returns-clause-batch
returns-clause-batch c =
    record { core = c.args.core.now; left = c.loop-slot.core; lawful = c.law.ensures; taken = taken c }
