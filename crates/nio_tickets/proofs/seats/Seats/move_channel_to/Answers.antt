use Rattle.nio_tickets.proofs.Keeping.{takes_more}
use Rattle.nio_tickets.proofs.seats.Seats.move_channel_to.Goals as goal

pub returns-clause-moved : goal.returns-clause-moved
returns-clause-moved c =
    takes_more _ _ _ c.move_to.ensures.moved
    (takes_more _ _ _ c.move_to-2.ensures.moved (takes_more _ _ _ c.move_to-3.ensures.moved c.move_to-4.ensures.moved))
