use Rattle.nio_words.proofs.Keys.{look_key_moves}
use Rattle.nio_words.proofs.words.Words.look_key.Goals as goal

pub step-found-requires : goal.step-found-requires
step-found-requires c =
    (c.requires.ready, (look_key_moves _ c.args.me c.args.s c.args.i c.requires.key, λ _. c.requires.key))
