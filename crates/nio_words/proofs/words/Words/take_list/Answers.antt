use Rattle.std.proofs.Common.{arith}
use Rattle.nio_words.proofs.Holders.{take_list_moves}
use Rattle.nio_words.proofs.words.Words.take_list.Goals as goal

pub step-found-requires : goal.step-found-requires
step-found-requires c = (
  c.requires.ready,
  (
    rw c.holder-new.ensures (take_list_moves _ c.args.me c.args.s c.requires.selector (omega arith)),
    λ _. c.requires.selector,
  ),
)
