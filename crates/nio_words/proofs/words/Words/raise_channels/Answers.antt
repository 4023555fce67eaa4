use Rattle.std.proofs.Common.{arith}
use Rattle.nio_words.proofs.HighWater.{raise_channels_moves}
use Rattle.nio_words.proofs.words.Words.raise_channels.Goals as goal

pub step_that-found-requires : goal.step_that-found-requires
step_that-found-requires c = (
  c.requires.ready,
  (
    rw c.from-least.ensures (raise_channels_moves _ c.args.me c.args.n (omega arith)),
    λ _. (c.requires.most, c.requires.lower),
  ),
)
