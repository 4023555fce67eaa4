use Rattle.std.proofs.Common.{arith}
use Rattle.nio_words.proofs.Interests.{or_interest_moves}
use Rattle.nio_words.proofs.words.Words.or_interest.Goals as goal

pub step-found-requires : goal.step-found-requires
step-found-requires c = (
  c.requires.ready,
  (
    or_interest_moves _ c.args.me c.args.s c.args.i _ c.requires.key (omega arith),
    λ _. (c.requires.key, c.requires.pinned, c.requires.touched),
  ),
)
