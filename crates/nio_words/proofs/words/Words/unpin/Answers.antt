use Rattle.std.proofs.Common.{arith}
use Rattle.nio_words.proofs.Keys.{unpin_moves}
use Rattle.nio_words.proofs.words.Words.unpin.Goals as goal

pub step-requires : goal.step-requires
step-requires c = (
  c.requires.ready,
  (
    unpin_moves _ c.args.me c.args.s c.args.i c.requires.key
        (omega (
          arith,
          c.requires.ready.pass.callers c.args.me c.requires.ready.number,
          c.args.self.now.fit.few_callers,
        )),
    λ _. (c.requires.key, c.requires.pinned),
  ),
)
