use Rattle.std.proofs.Common.{◌^◌, ◌<◌, arith}
use Rattle.nio_words.proofs.Keys.{claim_moves}
use Rattle.nio_words.proofs.words.Words.claim.Goals as goal

pub new_key-new-requires : goal.new_key-new-requires
new_key-new-requires c = omega (arith, c.requires.channel, c.args.self.now.fit.few_channels)

pub step_that-found-requires : goal.step_that-found-requires
step_that-found-requires c =
    let few : c.args.me.0
    < 64 = omega
    (arith, c.requires.ready.pass.callers c.args.me c.requires.ready.number, c.args.self.now.fit.few_callers) in
    let fits : c.args.c.0 < 2 ^ 20 = omega (arith, c.requires.channel, c.args.self.now.fit.few_channels) in (
      c.requires.ready,
      (
        rw c.new_key-new.ensures (claim_moves _ c.args.me c.args.s c.args.i c.args.c c.requires.key few fits),
        λ _. (c.requires.key, c.requires.channel, c.requires.holds, c.requires.lower),
      ),
    )
