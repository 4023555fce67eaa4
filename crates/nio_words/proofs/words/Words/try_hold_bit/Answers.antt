use Rattle.std.proofs.Common.{arith}
use Rattle.nio_words.proofs.Holders.{try_hold_bit_moves}
use Rattle.nio_words.proofs.words.Words.try_hold_bit.Goals as goal

pub step-found-requires : goal.step-found-requires
step-found-requires c = (
  c.requires.ready,
  (
    rw c.holder-new.ensures (try_hold_bit_moves _ c.args.me c.args.c c.requires.channel (omega arith)),
    λ _. (c.requires.channel, c.requires.made),
  ),
)
