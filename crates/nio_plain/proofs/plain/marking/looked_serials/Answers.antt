use Rattle.std.proofs.Common.{◌<◌, ℕ, length, ap, arith}
use Rattle.nio_base.specs.declared.numbers.KeyId.{KeyId}
use Rattle.nio_plain.proofs.Marking.{serials-step}
use Rattle.nio_plain.proofs.plain.marking.looked_serials.Goals as goal

pub loop-key-preserved : goal.loop-key-preserved
loop-key-preserved c =
    let j = c.loop-key.key-index in
    let p = c.loop-key-item.result in
    let there = ap (λ (q : KeyId × ℕ). q.0.index) c.loop-key-item.is in
    let below = c.requires.within j p c.loop-key-test.true in
    let within : p.0.index < length c.loop-key.serials.items = omega
    (arith, c.loop-key.serials.ok.0, c.loop-key.invariant.long) in
    record {
      long = c.loop-key.invariant.long;
      serials = serials-step c.args.looked.now j p c.loop-key.serials.items c.requires.rising c.loop-key-test.true
          c.loop-key-item.is within c.loop-key.invariant.serials;
    }
