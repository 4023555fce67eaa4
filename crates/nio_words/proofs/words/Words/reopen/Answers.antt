use Rattle.std.proofs.Common.{arith}
use Rattle.nio_words.proofs.Channels.{reopen_moves}
use Rattle.nio_words.proofs.words.Words.reopen.Goals as goal

pub step_that-found-requires : goal.step_that-found-requires
step_that-found-requires c = (
  c.requires.ready,
  (
    rw (c.channel-old.ensures.word, c.new_channel-new.ensures)
        (reopen_moves _ c.args.me c.args.c c.args.from _ (omega arith) c.requires.channel c.requires.serial),
    λ _. (
      c.requires.channel,
      c.requires.holds,
      c.requires.made,
      c.requires.closed,
      c.requires.serial,
      c.requires.clear,
    ),
  ),
)
