use Rattle.nio_words.proofs.FreeIndexes.{look_free_moves}
use Rattle.nio_words.proofs.words.Words.look_free.Goals as goal

pub step-requires : goal.step-requires
step-requires c = (
  c.requires.ready,
  (
    look_free_moves _ c.args.me c.args.s c.args.j c.requires.selector c.requires.indexes,
    λ _. (c.requires.selector, c.requires.indexes),
  ),
)
