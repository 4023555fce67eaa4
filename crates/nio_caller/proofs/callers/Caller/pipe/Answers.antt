use Rattle.nio_caller.proofs.Calls.{acting_unpinned}
use Rattle.nio_caller.proofs.GoingOn.{makes_pipe}
use Rattle.nio_caller.proofs.callers.Caller.pipe.Goals as goal

pub invariant_of-self : goal.invariant_of-self
invariant_of-self g c =
    acting_unpinned c.words.ensures (makes_pipe _) c.pipe.ensures.call c.pipe.ensures.unpinned c.pipe.ensures.ready c.self.invariant
