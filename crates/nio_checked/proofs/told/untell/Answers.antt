use Rattle.std.proofs.Common.{◌<◌, length, arith}
use Rattle.std.proofs.lemmas.List.Edits.{map_over_more}
use Rattle.nio_link.specs.Readiness.{without}
use Rattle.nio_checked.specs.Listed.{changed_at}
use Rattle.nio_checked.proofs.told.untell.Goals as goal

pub loop-one-preserved : goal.loop-one-preserved
loop-one-preserved c =
    let within : c.loop-one.one-index < length c.args.told.now = omega (arith, c.loop-one-test.true) in
    rw (c.without.ensures, ← c.one-item.is) (map_over_more (changed_at c.args.chan (without c.args.op)) c.args.told.now
    c.loop-one.told c.loop-one.one-index c.one-item.result within c.loop-one.invariant c.one-item.is)
