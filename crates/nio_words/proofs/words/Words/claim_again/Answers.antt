use Rattle.std.proofs.Common.{◌^◌, ◌<◌, arith}
use Rattle.nio_history.specs.Conditions.{IsCaller}
use Rattle.nio_words.proofs.Keys.{claim_again_moves, claims_from_small}
use Rattle.nio_words.proofs.words.Words.claim_again.Goals as goal

pub unpinned-old-requires : goal.unpinned-old-requires
unpinned-old-requires c =
    claims_from_small _ c.args.self.now.fit c.args.me c.args.s c.args.i c.args.c c.args.from _
    c.requires.ready.pass.legal (c.requires.ready.pass.callers c.args.me c.requires.ready.number)
    (c.requires.key, c.requires.channel, c.requires.holds, c.requires.taken, c.requires.found, c.requires.serial)

pub new_key-new-requires : goal.new_key-new-requires
new_key-new-requires c = omega (arith, c.requires.channel, c.args.self.now.fit.few_channels)

pub step_that-found-requires : goal.step_that-found-requires
step_that-found-requires c =
    let is_caller : IsCaller c.args.self.now.limits c.args.me = c.requires.ready.pass.callers c.args.me
    c.requires.ready.number in
    let few : c.args.me.0 < 64 = omega (arith, is_caller, c.args.self.now.fit.few_callers) in
    let fits : c.args.c.0 < 2 ^ 20 = omega (arith, c.requires.channel, c.args.self.now.fit.few_channels) in (
      c.requires.ready,
      (
        rw (c.unpinned-old.ensures, c.new_key-new.ensures)
            (claim_again_moves _ c.args.me c.args.s c.args.i c.args.c c.args.from _
            (omega arith) c.requires.key is_caller few fits c.requires.serial),
        λ _. (
          c.requires.key,
          c.requires.channel,
          c.requires.holds,
          c.requires.taken,
          c.requires.found,
          c.requires.serial,
        ),
      ),
    )
