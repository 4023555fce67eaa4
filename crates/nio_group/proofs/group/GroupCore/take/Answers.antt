use Rattle.nio_group.proofs.EndLemmas.{kept-taken}
use Rattle.nio_group.proofs.group.GroupCore.take.Goals as goal

pub invariant_of-self : goal.invariant_of-self
invariant_of-self c = rw c.take.ensures.after (kept-taken c.self.invariant)

pub invariant_of-self-2 : goal.invariant_of-self-2
invariant_of-self-2 c = rw c.take.ensures.after (kept-taken c.self.invariant)
