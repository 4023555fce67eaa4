use Rattle.nio_words.proofs.Channels.{set_mode_moves}
use Rattle.nio_words.proofs.words.Words.set_mode.Goals as goal

pub step_that-found-requires : goal.step_that-found-requires
step_that-found-requires c = (
  c.requires.ready,
  (
    rw c.to_put_bit-instruction.ensures (set_mode_moves _ c.args.me c.args.c c.args.blocking c.requires.channel),
    λ _. (c.requires.channel, c.requires.holds, c.requires.clear),
  ),
)
