use Rattle.std.proofs.Common.{◌∙◌, ap, refl}
use Rattle.nio_select.specs.InHand.{selection_of}
use Rattle.nio_board.proofs.Polling.{fails_to_select, selects}
use Rattle.nio_board.specs.Board.{BoardView}
use Rattle.nio_board.specs.Polling.{not_begun}
use Rattle.nio_board.proofs.board.Board.select.Goals as goal

pub returns-in_default-clause-failed : goal.returns-in_default-clause-failed
returns-in_default-clause-failed g c = not_begun c.in_default.ensures.refused refl

pub returns-in-Ok-poll-clause-made : goal.returns-in-Ok-poll-clause-made
returns-in-Ok-poll-clause-made g c =
    selects (selection_of c.in-Ok.selection) c.self.inside.station.deal
    (ap (λ (b : BoardView). b.deal) c.self.view_is ∙ c.begin.ensures.same.seat.deal) c.begin.ensures.same.seat.words
    c.in-Ok.ensures.made _ c.in-Ok-poll.ensures.polled c.tell.ensures.made c.in-Ok-poll.ensures.listed

pub returns-in-Err-clause-failed : goal.returns-in-Err-clause-failed
returns-in-Err-clause-failed g c =
    fails_to_select (selection_of c.in-Ok.selection) c.self.inside.station.deal
    (ap (λ (b : BoardView). b.deal) c.self.view_is ∙ c.begin.ensures.same.seat.deal) c.begin.ensures.same.seat.words
    c.in-Ok.ensures.made c.in-Err.error c.in-Err.ensures.failed c.leave.ensures.made
