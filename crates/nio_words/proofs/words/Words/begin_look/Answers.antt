use Rattle.nio_words.proofs.Gates.{begin_look_moves}
use Rattle.nio_words.proofs.words.Words.begin_look.Goals as goal

pub step-found-requires : goal.step-found-requires
step-found-requires c = (
  c.requires.ready,
  (begin_look_moves _ c.args.me c.args.s c.requires.selector, λ _. (c.requires.selector, c.requires.turn)),
)
