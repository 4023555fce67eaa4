use Rattle.nio_words.proofs.Holders.{give_turn_moves}
use Rattle.nio_words.proofs.words.Words.give_turn.Goals as goal

pub step-requires : goal.step-requires
step-requires c = (
  c.requires.ready,
  (give_turn_moves _ c.args.me c.args.s c.requires.selector, λ _. (c.requires.selector, c.requires.turn)),
)
