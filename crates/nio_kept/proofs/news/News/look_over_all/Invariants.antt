use Rattle.std.proofs.Common.{◌≡◌, ◌<◌}
use Rattle.nio_kept.specs.Looks.{KnowsAt}
use Rattle.nio_kept.specs.News.{AreApart}
use Rattle.nio_kept.proofs.Looks.{AreReady}
use Rattle.nio_kept.proofs.news.News.look_over_all.Given as goal

abbrev pub invariant-loop-index : goal.invariant-loop-index
invariant-loop-index l = record {
  kept : l.self.kept ≡ l.fn.self.kept;
  seen : l.self.seen ≡ l.fn.self.seen;
  ready : AreReady l.self.kept l.asked.keys l.self.candidates;
  known : AreApart l.asked.keys → KnowsAt (λ j. j < l.index) l.self l.asked.keys;
}
