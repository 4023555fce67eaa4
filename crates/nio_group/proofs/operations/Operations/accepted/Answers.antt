use Rattle.std.proofs.Common.{sym}
use Rattle.nio_group.proofs.KeptLemmas.{length-kept}
use Rattle.nio_group.proofs.operations.Operations.accepted.Goals as goal

pub returns : goal.returns
returns c =
    let i = c.self.inside in
    rw (← c.self.view_is) (sym (length-kept i.slab i.index i.accepted))
