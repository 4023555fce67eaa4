use Rattle.std.proofs.Common.{ap, ◌∙◌}
use Rattle.nio_deadline.specs.Deadlines.{AreInOrder, first_moment}
use Rattle.nio_deadline.specs.Timed.{Timed}
use Rattle.nio_deadline.proofs.DeadlineLemmas.{first-least}
use Rattle.nio_deadline.proofs.timed.TimedCore.next_deadline.Goals as goal

pub returns-clause-least : goal.returns-clause-least
returns-clause-least c =
    let order : AreInOrder c.args.self.now.deadlines = rw (← c.self.view_is) c.self.invariant.lawful.in_order in
    first-least c.args.self.now.deadlines c.first.result (c.first.ensures ∙ ap (λ
    (t : Timed). first_moment t.deadlines) c.self.view_is)
    order
