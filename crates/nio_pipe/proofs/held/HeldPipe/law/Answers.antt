use Rattle.std.proofs.Common.{subst}
use Rattle.nio_pipe.specs.Pipe.{IsLawful}
use Rattle.nio_pipe.proofs.KeptLemmas.{kept-IsLawful}
use Rattle.nio_pipe.proofs.held.HeldPipe.law.Goals as goal

pub returns : goal.returns
returns c = let h =
    c.self.inside in
    subst IsLawful c.self.view_is
    (kept-IsLawful h.source h.sink h.sent h.received h.buffer h.sealed c.self.invariant)
