use Rattle.nio_words.proofs.Marks.{clear_mark_moves}
use Rattle.nio_words.proofs.words.Words.clear_mark.Goals as goal

pub step-found-requires : goal.step-found-requires
step-found-requires c = (
  c.requires.ready,
  (clear_mark_moves _ c.args.me c.args.s c.args.i c.requires.key, λ _. (c.requires.key, c.requires.unpublished)),
)
