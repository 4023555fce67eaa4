use Rattle.nio_words.proofs.Channels.{make_channel_moves}
use Rattle.nio_words.proofs.words.Words.make_channel.Goals as goal

pub step_that-found-requires : goal.step_that-found-requires
step_that-found-requires c = (
  c.requires.ready,
  (
    rw c.new_channel-new.ensures (make_channel_moves _ c.args.me c.args.c c.args.kind c.requires.channel),
    λ _. (c.requires.channel, c.requires.lower),
  ),
)
