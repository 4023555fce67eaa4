use Rattle.std.proofs.Common.{◌+◌, ◌^◌, ◌<◌, arith}
use Rattle.nio_words.proofs.Enrolled.{enrol_moves}
use Rattle.nio_words.proofs.words.Words.enrol.Goals as goal

pub enrolled-new-requires : goal.enrolled-new-requires
enrolled-new-requires c = omega (arith, c.requires.key.1, c.args.self.now.fit.few_keys)

pub step_that-found-requires : goal.step_that-found-requires
step_that-found-requires c =
    let few : c.args.i + 1 < 2 ^ 32 = omega (arith, c.requires.key.1, c.args.self.now.fit.few_keys) in (
      c.requires.ready,
      (
        rw c.enrolled-new.ensures
            (enrol_moves _ c.args.me c.args.c c.args.s (record { index = c.args.i; serial = c.args.serial })
            c.requires.channel c.requires.key.0 few (omega arith)),
        λ _. (c.requires.channel, c.requires.key, c.requires.claimed, c.requires.holds, c.requires.clear),
      ),
    )
