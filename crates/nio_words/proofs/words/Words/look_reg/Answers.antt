use Rattle.nio_words.proofs.Enrolled.{look_reg_moves}
use Rattle.nio_words.proofs.words.Words.look_reg.Goals as goal

pub step-found-requires : goal.step-found-requires
step-found-requires c = (
  c.requires.ready,
  (
    look_reg_moves _ c.args.me c.args.c c.args.s c.requires.channel c.requires.selector,
    λ _. (c.requires.channel, c.requires.selector),
  ),
)
