use Rattle.nio_words.proofs.Channels.{close_bit_moves}
use Rattle.nio_words.proofs.words.Words.close_bit.Goals as goal

pub step_that-found-requires : goal.step_that-found-requires
step_that-found-requires c = (
  c.requires.ready,
  (
    rw c.channel-closed.ensures.word
        (close_bit_moves _ c.args.me c.args.c c.args.from c.requires.channel c.channel-closed.ensures.serial),
    λ _. (c.requires.channel, c.requires.was_open),
  ),
)
