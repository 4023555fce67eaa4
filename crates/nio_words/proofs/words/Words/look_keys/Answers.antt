use Rattle.nio_words.proofs.HighWater.{look_keys_moves}
use Rattle.nio_words.proofs.words.Words.look_keys.Goals as goal

pub step-found-requires : goal.step-found-requires
step-found-requires c =
    (c.requires.ready, (look_keys_moves _ c.args.me c.args.s c.requires.selector, λ _. c.requires.selector))
