use Rattle.std.proofs.Common.{IsTrue}
use Rattle.nio_kept.specs.News.{Knows, Remembers}
use Rattle.nio_mio.proofs.sockets.hear_all.Given as goal

abbrev pub invariant-loop-event : goal.invariant-loop-event
invariant-loop-event l = record {
  knows : IsTrue l.are_heard → Knows l.fn.news l.asked.keys → Knows l.news l.asked.keys;
  remembers : Remembers l.fn.news l.asked → Remembers l.news l.asked;
}
