use Rattle.nio_words.proofs.Keys.{publish_moves}
use Rattle.nio_words.proofs.words.Words.publish.Goals as goal

pub step-found-requires : goal.step-found-requires
step-found-requires c = (
  c.requires.ready,
  (publish_moves _ c.args.me c.args.s c.args.i c.requires.key, λ _. (c.requires.key, c.requires.may, c.requires.touched)),
)
