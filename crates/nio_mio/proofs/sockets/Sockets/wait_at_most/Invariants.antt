use Rattle.nio_kept.specs.News.{Knows, Remembers}
use Rattle.nio_mio.proofs.sockets.Sockets.wait_at_most.Given as goal

abbrev pub invariant-loop : goal.invariant-loop
invariant-loop g l =
    (goal.iterator-loop g).can_next l.iterator' × (goal.iterator-loop g).is_finite l.iterator'
    × (Knows l.fn.self.news l.asked.keys → Knows l.self.news l.asked.keys)
    × (Remembers l.fn.self.news l.asked → Remembers l.self.news l.asked)
