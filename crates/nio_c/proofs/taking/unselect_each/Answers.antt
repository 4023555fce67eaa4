use Rattle.std.proofs.Common.{get_or, refl}
use Rattle.nio_base.specs.declared.numbers.KeyNo.{KeyNo}
use Rattle.nio_c.proofs.Unselecting.{and_next}
use Rattle.nio_c.proofs.taking.unselect_each.Goals as goal

pub loop-key-preserved : goal.loop-key-preserved
loop-key-preserved c =
    let d : KeyNo = record { sel = record { 0 = 0 }; index = 0; serial = 0 } in
    and_next c.args.keys.now c.loop-key.key-index d (get_or c.args.keys.now c.loop-key.key-index d) c.args.acting.now
    c.loop-key.acting c.unselect-taken.new.self c.loop-key-test.true c.loop-key.invariant refl
    (record { taken = c.unselect-taken.result; call = c.unselect-taken.ensures.call })
