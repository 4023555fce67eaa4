use Rattle.std.proofs.Common.{◌≡◌, IsFalse}
use Rattle.nio_select.specs.Asked.{has_changed}
use Rattle.nio_kept.specs.Looks.{KnowsAt}
use Rattle.nio_kept.specs.News.{AreApart}
use Rattle.nio_kept.proofs.Looks.{AreReady, IsPast}
use Rattle.nio_kept.proofs.news.News.look_at_changed.Given as goal

abbrev pub invariant-loop-index : goal.invariant-loop-index
invariant-loop-index l = record {
  kept : l.self.kept ≡ l.fn.self.kept;
  seen : l.self.seen ≡ l.fn.self.seen;
  ready : AreReady l.self.kept l.asked.keys l.self.candidates;
  known : AreApart l.asked.keys → KnowsAt (λ i. IsFalse (has_changed l.asked.changed i)) l.fn.self l.asked.keys
      → KnowsAt (IsPast l.asked.changed l.index-index) l.self l.asked.keys;
}
