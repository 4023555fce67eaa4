use Rattle.nio_words.proofs.Gates.{shut_bit_moves}
use Rattle.nio_words.proofs.words.Words.shut_bit.Goals as goal

pub step-found-requires : goal.step-found-requires
step-found-requires c =
    (c.requires.ready, (shut_bit_moves _ c.args.me c.args.s c.requires.selector, λ _. c.requires.selector))
