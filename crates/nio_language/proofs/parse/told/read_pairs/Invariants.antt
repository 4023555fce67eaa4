use Rattle.std.proofs.Common.{map}
use Rattle.nio_language.proofs.PairLists.{AreRead}
use Rattle.nio_language.proofs.parse.told.read_pairs.Given as goal

abbrev pub invariant-loop-word : goal.invariant-loop-word
invariant-loop-word l = AreRead (map (λ w. w.now) l.words) l.word-index l.pairs.items
