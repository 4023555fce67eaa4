use Rattle.nio_words.proofs.HighWater.{look_channels_moves}
use Rattle.nio_words.proofs.words.Words.look_channels.Goals as goal

pub step-found-requires : goal.step-found-requires
step-found-requires c = (c.requires, (look_channels_moves _ c.args.me, λ _. tt))
