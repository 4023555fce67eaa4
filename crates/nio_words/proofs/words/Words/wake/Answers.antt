use Rattle.nio_words.proofs.Gates.{wake_moves}
use Rattle.nio_words.proofs.words.Words.wake.Goals as goal

pub step-found-requires : goal.step-found-requires
step-found-requires c = (
  c.requires.ready,
  (wake_moves _ c.args.me c.args.s c.requires.selector, λ _. (c.requires.selector, c.requires.made)),
)
