use Rattle.nio_words.proofs.Keys.{remove_moves}
use Rattle.nio_words.proofs.words.Words.remove.Goals as goal

pub step-found-requires : goal.step-found-requires
step-found-requires c = (
  c.requires.ready,
  (remove_moves _ c.args.me c.args.s c.args.i c.requires.key, λ _. (c.requires.key, c.requires.may)),
)
