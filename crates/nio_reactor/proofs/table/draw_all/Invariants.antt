use Rattle.nio_reactor.specs.Seats.{HaveDrawn}
use Rattle.nio_reactor.proofs.table.draw_all.Given as goal

abbrev pub invariant-loop-number : goal.invariant-loop-number
invariant-loop-number l = HaveDrawn l.words l.pass l.number
