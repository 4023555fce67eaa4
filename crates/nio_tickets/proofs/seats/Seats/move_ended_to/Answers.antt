use Rattle.std.proofs.Common.{◌∙◌, arith}
use Rattle.std.proofs.lemmas.Grind.{common_steps}
use Rattle.nio_tickets.proofs.Keeping.{takes_more}
use Rattle.nio_tickets.proofs.seats.Seats.move_ended_to.Goals as goal

pub loop-one-preserved : goal.loop-one-preserved
loop-one-preserved c =
    record {
      taken = grind (arith, common_steps);
      moved = takes_more _ _ _ c.loop-one.invariant.moved c.move_reported_to.ensures.moved;
      capacity = c.move_reported_to.ensures.capacity ∙ c.loop-one.invariant.capacity;
    }
