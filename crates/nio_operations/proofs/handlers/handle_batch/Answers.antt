use Rattle.std.proofs.Common.{ap, ◌∙◌}
use Rattle.nio_group.specs.Completion.{CompletionFields}
use Rattle.nio_operations.proofs.HandlingLemmas.{handles_more}
use Rattle.nio_operations.specs.Handling.{after_handled, held_after_due}
use Rattle.nio_operations.proofs.handlers.handle_batch.Goals as goal

pub loop-count-preserved : goal.loop-count-preserved
loop-count-preserved g c =
    let held = c.loop-count.streams.held in
    let core = c.loop-count.core in
    let next = c.done-in-loop-count.ensures in
    record {
      handles = handles_more _ _ _ _ _ _ _ c.in-Some.next _ _ c.loop-count.invariant.handles c.in-Some.ensures.taken
          (c.handle-in-loop-count.ensures.held ∙ ap (λ (d : CompletionFields). held_after_due held core d) next)
          (c.handle-in-loop-count.ensures.core ∙ ap (λ (d : CompletionFields). after_handled held core d) next);
      pass = c.in-Some.ensures.pass;
    }
