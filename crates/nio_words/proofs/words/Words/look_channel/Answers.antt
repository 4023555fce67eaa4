use Rattle.nio_words.proofs.Channels.{look_channel_moves}
use Rattle.nio_words.proofs.words.Words.look_channel.Goals as goal

pub step-found-requires : goal.step-found-requires
step-found-requires c =
    (c.requires.ready, (look_channel_moves _ c.args.me c.args.c c.requires.channel, λ _. c.requires.channel))
