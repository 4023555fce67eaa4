use Rattle.nio_words.proofs.TouchedIndexes.{touch_moves}
use Rattle.nio_words.proofs.words.Words.touch.Goals as goal

pub step_that-found-requires : goal.step_that-found-requires
step_that-found-requires c = (
  c.requires.ready,
  (touch_moves _ c.args.me c.args.s c.args.i c.requires.key, λ _. (c.requires.key, c.requires.may)),
)
