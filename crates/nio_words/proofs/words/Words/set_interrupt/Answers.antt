use Rattle.std.proofs.Common.{arith}
use Rattle.nio_words.proofs.Interrupts.{set_interrupt_moves}
use Rattle.nio_words.proofs.words.Words.set_interrupt.Goals as goal

pub step-found-requires : goal.step-found-requires
step-found-requires c = (
  c.requires.ready,
  (
    set_interrupt_moves _ c.args.me c.args.target
        (omega (arith, c.requires.target, c.args.self.now.fit.few_callers)),
    λ _. c.requires.target,
  ),
)
