use Rattle.nio_words.proofs.Marks.{unselect_bit_moves}
use Rattle.nio_words.proofs.words.Words.unselect_bit.Goals as goal

pub step-found-requires : goal.step-found-requires
step-found-requires c = (
  c.requires.ready,
  (unselect_bit_moves _ c.args.me c.args.s c.args.i c.requires.key, λ _. (c.requires.key, c.requires.pinned)),
)
