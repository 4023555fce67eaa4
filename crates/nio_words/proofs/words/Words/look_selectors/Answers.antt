use Rattle.nio_words.proofs.Selectors.{look_selectors_moves}
use Rattle.nio_words.proofs.words.Words.look_selectors.Goals as goal

pub step-requires : goal.step-requires
step-requires c = (c.requires, (look_selectors_moves _ c.args.me, λ _. tt))
