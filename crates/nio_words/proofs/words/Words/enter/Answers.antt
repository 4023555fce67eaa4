use Rattle.nio_words.proofs.Holders.{enter_moves}
use Rattle.nio_words.proofs.words.Words.enter.Goals as goal

pub step-found-requires : goal.step-found-requires
step-found-requires c = (
  c.requires.ready,
  (enter_moves _ c.args.me c.args.s c.requires.selector, λ _. (c.requires.selector, c.requires.closer)),
)
