use Rattle.std.proofs.Common.{◌*◌, ◌∙◌, ap}
use Rattle.nio_tickets.specs.Seats.{seated}
use Rattle.nio_tickets.proofs.Keeping.{empty_seats, none_seated}
use Rattle.nio_tickets.proofs.office.Office.make.Goals as goal

pub invariant_of-result : goal.invariant_of-result
invariant_of-result c =
    empty_seats c.in_ok-desk.desk c.in_ok-seats.seats (ap seated c.in_ok-seats.ensures ∙ none_seated (4 * c.args.channels))
