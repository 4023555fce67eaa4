use Rattle.nio_words.proofs.FreeIndexes.{put_free_moves}
use Rattle.nio_words.proofs.words.Words.put_free.Goals as goal

pub step_that-requires : goal.step_that-requires
step_that-requires c = (
  c.requires.ready,
  (put_free_moves _ c.args.me c.args.s c.args.i c.requires.key, λ _. (c.requires.key, c.requires.may)),
)
