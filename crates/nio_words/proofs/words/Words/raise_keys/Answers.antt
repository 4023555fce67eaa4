use Rattle.std.proofs.Common.{arith}
use Rattle.nio_words.proofs.HighWater.{raise_keys_moves}
use Rattle.nio_words.proofs.words.Words.raise_keys.Goals as goal

pub step_that-found-requires : goal.step_that-found-requires
step_that-found-requires c = (
  c.requires.ready,
  (
    rw c.from-least.ensures (raise_keys_moves _ c.args.me c.args.s c.args.n c.requires.selector (omega arith)),
    λ _. (c.requires.selector, c.requires.most, c.requires.lower),
  ),
)
