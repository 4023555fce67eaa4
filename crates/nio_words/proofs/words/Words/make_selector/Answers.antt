use Rattle.std.proofs.Common.{arith}
use Rattle.nio_words.proofs.Selectors.{make_selector_moves}
use Rattle.nio_words.proofs.words.Words.make_selector.Goals as goal

pub step-found-requires : goal.step-found-requires
step-found-requires c = (
  c.requires.ready,
  (
    make_selector_moves _ c.args.me c.args.s
        (omega (arith, c.requires.selector, c.args.self.now.fit.few_selectors)),
    λ _. c.requires.selector,
  ),
)
