use Rattle.nio_words.proofs.TouchedIndexes.{look_touched_moves}
use Rattle.nio_words.proofs.words.Words.look_touched.Goals as goal

pub step-requires : goal.step-requires
step-requires c = (
  c.requires.ready,
  (
    look_touched_moves _ c.args.me c.args.s c.args.j c.requires.selector c.requires.indexes,
    λ _. (c.requires.selector, c.requires.indexes),
  ),
)
