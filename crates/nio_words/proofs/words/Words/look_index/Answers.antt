use Rattle.nio_words.proofs.Keys.{look_index_moves}
use Rattle.nio_words.proofs.words.Words.look_index.Goals as goal

pub step-found-requires : goal.step-found-requires
step-found-requires c =
    (c.requires.ready, (look_index_moves _ c.args.me c.args.s c.args.i c.requires.key, λ _. c.requires.key))
