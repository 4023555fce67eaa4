use Rattle.nio_words.proofs.Holders.{release_moves}
use Rattle.nio_words.proofs.words.Words.release.Goals as goal

pub step-requires : goal.step-requires
step-requires c = (
  c.requires.ready,
  (release_moves _ c.args.me c.args.c c.requires.channel, λ _. (c.requires.channel, c.requires.holds)),
)
