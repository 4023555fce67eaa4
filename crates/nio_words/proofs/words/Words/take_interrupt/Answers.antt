use Rattle.std.proofs.Common.{arith}
use Rattle.nio_words.proofs.Interrupts.{take_interrupt_moves}
use Rattle.nio_words.proofs.words.Words.take_interrupt.Goals as goal

pub step-found-requires : goal.step-found-requires
step-found-requires c = (
  c.requires,
  (
    take_interrupt_moves _ c.args.me
        (omega (arith, c.requires.pass.callers c.args.me c.requires.number, c.args.self.now.fit.few_callers)),
    λ _. tt,
  ),
)
