use Rattle.nio_words.proofs.Keys.{cancel_key_moves}
use Rattle.nio_words.proofs.words.Words.cancel_key.Goals as goal

pub step-found-requires : goal.step-found-requires
step-found-requires c = (
  c.requires.ready,
  (
    cancel_key_moves _ c.args.me c.args.s c.args.i c.requires.key,
    λ _. (c.requires.key, c.requires.claimed, c.requires.pinned, c.requires.touched),
  ),
)
