use Rattle.nio_words.proofs.Gates.{end_wake_moves}
use Rattle.nio_words.proofs.words.Words.end_wake.Goals as goal

pub step-found-requires : goal.step-found-requires
step-found-requires c = (
  c.requires.ready,
  (end_wake_moves _ c.args.me c.args.s c.requires.selector, λ _. (c.requires.selector, c.requires.begun)),
)
