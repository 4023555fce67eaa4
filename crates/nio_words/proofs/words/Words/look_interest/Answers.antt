use Rattle.nio_words.proofs.Interests.{look_interest_moves}
use Rattle.nio_words.proofs.words.Words.look_interest.Goals as goal

pub step-found-requires : goal.step-found-requires
step-found-requires c = (
  c.requires.ready,
  (look_interest_moves _ c.args.me c.args.s c.args.i c.requires.key, λ _. (c.requires.key, c.requires.may)),
)
