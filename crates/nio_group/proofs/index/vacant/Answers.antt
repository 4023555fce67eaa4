use Rattle.std.proofs.Common.{sym, ◌∙◌}
use Rattle.nio_group.proofs.IndexLemmas.{vacant-passes}
use Rattle.nio_group.proofs.index.vacant.Goals as goal

pub loop-at-preserved : goal.loop-at-preserved
loop-at-preserved c =
    let i = c.loop-at.invariant in
    vacant-passes _ _ _ _ c.requires.room c.requires.size i.0 i.1 i.2 (sym c.is_some.ensures ∙ c.loop-at-test.true)
