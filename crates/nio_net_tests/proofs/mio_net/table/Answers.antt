use Rattle.std.proofs.Common.{refl}
use Rattle.nio_net_tests.proofs.Drawn.{drawn_unpinned}
use Rattle.nio_net_tests.proofs.mio_net.table.Goals as goal

pub returns-clause-ready : goal.returns-clause-ready
returns-clause-ready c =
    let draws = c.in_ok-draw.ensures.answer.1 in record { pass = draws.pass; number = draws.holds refl }

pub returns-clause-unpinned : goal.returns-clause-unpinned
returns-clause-unpinned c = drawn_unpinned (record { 0 = 0 }) c.in_ok-words.ensures.pass c.in_ok-draw.ensures.answer.1
