use Rattle.nio_c.specs.Values.{key_of}
use Rattle.nio_c.proofs.Filling.{copied_more}
use Rattle.nio_c.proofs.lists.fill_keys.Goals as goal

pub loop-i-preserved : goal.loop-i-preserved
loop-i-preserved c = copied_more key_of c.args.keys.now c.args.into.now c.loop-i.into c.loop-i.i _ c.of.result
    c.loop-i-test.true c.requires c.loop-i.invariant c.of.ensures
