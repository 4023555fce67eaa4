use Rattle.std.proofs.Common.{refl}
use Rattle.nio_board.proofs.Calls.{drawn_is_unregistered}
use Rattle.nio_board.proofs.Idle.{drawn_unpinned}
use Rattle.nio_serve.proofs.serving.open_board.Goals as goal

pub open-requires-clause-ready : goal.open-requires-clause-ready
open-requires-clause-ready c = let draws =
    c.in-Ok.ensures.answer.1 in record { pass = draws.pass; number = draws.holds refl }

pub open-requires-clause-unpinned : goal.open-requires-clause-unpinned
open-requires-clause-unpinned c = drawn_unpinned c.requires c.in-Ok.ensures.answer.1

pub open-requires-clause-called : goal.open-requires-clause-called
open-requires-clause-called c = drawn_is_unregistered _ _ _ _ c.requires c.in-Ok.ensures.answer.1
