use Rattle.std.proofs.Common.{subst}
use Rattle.nio_relay.specs.Flow.{IsLawful}
use Rattle.nio_relay.proofs.KeptLemmas.{seen-IsLawful}
use Rattle.nio_relay.proofs.direction.Direction.law.Goals as goal

pub returns : goal.returns
returns c = let d =
    c.self.inside in
    subst IsLawful c.self.view_is (seen-IsLawful d.taken d.buffer d.ended d.shut d.failed c.self.invariant)
