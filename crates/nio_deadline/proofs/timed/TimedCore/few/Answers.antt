use Rattle.std.proofs.Common.{arith}
use Rattle.nio_deadline.proofs.TimedLemmas.{few-deadlines}
use Rattle.nio_deadline.proofs.timed.TimedCore.few.Goals as goal

pub returns : goal.returns
returns c =
    let few = few-deadlines _ c.self.invariant.lawful in
    let limit = c.self.invariant.few_in_flight in
    rw (← c.self.view_is) (omega (arith, few, limit))
