use Rattle.nio_words.proofs.FreeIndexes.{take_free_moves}
use Rattle.nio_words.proofs.words.Words.take_free.Goals as goal

pub step_that-found-requires : goal.step_that-found-requires
step_that-found-requires c =
    (c.requires.ready, (take_free_moves _ c.args.me c.args.s c.args.i c.requires.key, λ _. c.requires.key))
