use Rattle.nio_group.proofs.FlightLemmas.{queued-below, not_queued-pending}
use Rattle.std.proofs.Common.{arith}
use Rattle.nio_group.proofs.flight.Flight.complete.Goals as goal

pub push_back_reserved-requires : goal.push_back_reserved-requires
push_back_reserved-requires c =
    let kept = c.self.invariant in
    let is = rw (← c.self.view_is) at c.requires.is in
    omega (
      arith,
      kept.queue_length,
      kept.room,
      kept.within,
      queued-below c.self.inside.operations.operations c.args.number c.args.operation is
          (not_queued-pending c.args.operation c.requires.pending),
    )
