use Rattle.std.proofs.Common.{arith}
use Rattle.nio_words.proofs.Keys.{pin_moves}
use Rattle.nio_words.proofs.words.Words.pin.Goals as goal

pub step-found-requires : goal.step-found-requires
step-found-requires c = (
  c.requires.ready,
  (
    pin_moves _ c.args.me c.args.s c.args.i c.requires.key
        (omega (
          arith,
          c.requires.ready.pass.callers c.args.me c.requires.ready.number,
          c.args.self.now.fit.few_callers,
        )),
    λ _. (c.requires.key, c.requires.claimed, c.requires.unpinned),
  ),
)
