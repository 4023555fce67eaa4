use Rattle.std.proofs.Common.{sym}
use Rattle.nio_deadline.proofs.DeadlineLemmas.{first-is}
use Rattle.nio_deadline.proofs.deadlines.Deadlines.first.Goals as goal

pub returns-in-Some : goal.returns-in-Some
returns-in-Some c =
    rw (← c.self.view_is)
    (sym
    (first-is c.self.inside.in_order.entries (c.in-Some.moment.now, c.in-Some.field-0-1.now) c.in-Some.ensures.first))
