use Rattle.std.proofs.Common.{arith}
use Rattle.nio_words.proofs.Holders.{take_turn_moves}
use Rattle.nio_words.proofs.words.Words.take_turn.Goals as goal

pub step-found-requires : goal.step-found-requires
step-found-requires c = (
  c.requires.ready,
  (
    rw c.holder-new.ensures (take_turn_moves _ c.args.me c.args.s c.requires.selector (omega arith)),
    λ _. c.requires.selector,
  ),
)
