use Rattle.nio_words.proofs.Gates.{look_gate_moves}
use Rattle.nio_words.proofs.words.Words.look_gate.Goals as goal

pub step-found-requires : goal.step-found-requires
step-found-requires c =
    (c.requires.ready, (look_gate_moves _ c.args.me c.args.s c.requires.selector, λ _. c.requires.selector))
