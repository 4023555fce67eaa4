use Rattle.std.proofs.Common.{◌≡◌, vec_capacity}
use Rattle.nio_reactor.specs.Seats.{IsHandingOut}
use Rattle.nio_reactor.proofs.table.hand_out.Given as goal

abbrev pub invariant-loop-worker : goal.invariant-loop-worker
invariant-loop-worker l = record {
  handing : IsHandingOut l.words l.pass l.passes.items l.worker l.workers;
  room : vec_capacity l.passes ≡ vec_capacity l.initial.passes;
}
