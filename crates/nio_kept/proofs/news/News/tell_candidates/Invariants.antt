use Rattle.nio_kept.specs.News.{AreFound}
use Rattle.nio_kept.proofs.Told.{IsTold}
use Rattle.nio_kept.proofs.news.News.tell_candidates.Given as goal

abbrev pub invariant-loop-index : goal.invariant-loop-index
invariant-loop-index l =
    AreFound l.self.kept l.asked.keys l.self.candidates
    → IsTold l.self.kept l.asked.keys l.self.candidates l.index-index l.pairs.items
