use Rattle.std.proofs.Common.{arith}
use Rattle.nio_words.proofs.Interests.{swap_interest_moves}
use Rattle.nio_words.proofs.words.Words.swap_interest.Goals as goal

pub step-found-requires : goal.step-found-requires
step-found-requires c = (
  c.requires.ready,
  (
    swap_interest_moves _ c.args.me c.args.s c.args.i _ c.requires.key (omega arith),
    λ _. (c.requires.key, c.requires.pinned, c.requires.touched),
  ),
)
