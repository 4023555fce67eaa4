use Rattle.nio_words.proofs.Marks.{look_mark_moves}
use Rattle.nio_words.proofs.words.Words.look_mark.Goals as goal

pub step-found-requires : goal.step-found-requires
step-found-requires c = (
  c.requires.ready,
  (look_mark_moves _ c.args.me c.args.s c.args.i c.requires.key, λ _. (c.requires.key, c.requires.may)),
)
