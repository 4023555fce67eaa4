use Rattle.std.proofs.Common.{rules, subst}
use Rattle.std.specs.Fork.{ChangesEach}
use Rattle.nio_reactor.proofs.working.each_beside.Goals as goal

pub returns-clause-changes : goal.returns-clause-changes
returns-clause-changes g c =
    subst (ChangesEach g.F.Fn c.args.work.now c.args.xs.now) (search rules) c.join_mut-accepted.ensures.0.met.1
