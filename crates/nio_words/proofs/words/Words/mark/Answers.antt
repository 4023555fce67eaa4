use Rattle.nio_words.proofs.Marks.{mark_moves}
use Rattle.nio_words.proofs.words.Words.mark.Goals as goal

pub step_that-found-requires : goal.step_that-found-requires
step_that-found-requires c = (
  c.requires.ready,
  (
    rw (c.mark-old.ensures.word, c.selected_with-new.ensures.word)
        (mark_moves _ c.args.me c.args.s c.args.i c.args.from c.args.told c.requires.key c.mark-old.ensures.ready
        c.selected_with-new.ensures.told),
    λ _. (c.requires.key, c.requires.begun, c.requires.told),
  ),
)
