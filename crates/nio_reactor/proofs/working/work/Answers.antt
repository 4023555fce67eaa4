use Rattle.std.proofs.Common.{◌≡◌, ◌<◌, ◌≤◌, max, min, arith}
use Rattle.std.proofs.Math.Nat.{le-max_right}
use Rattle.nio_reactor.proofs.Shares.{share_some}
use Rattle.nio_reactor.proofs.working.work.Goals as goal

pub work_share-outcome-requires-clause-slots : goal.work_share-outcome-requires-clause-slots
work_share-outcome-requires-clause-slots g c κs within =
    let many : c.args.workers ≤ c.slots_for-slots.result
    = omega (
      arith,
      c.slots_for-slots.ensures.all,
      le-max_right (min c.args.plan.conns c.args.plan.at_once) c.args.workers,
    ) in
    let some = share_some c.args.workers c.args.number c.slots_for-slots.result c.requires.one
    (omega (arith, c.requires.one, many)) in (
      omega (arith, c.share_of-2.ensures.exact, some),
      omega (arith, c.share_of-2.ensures.few, c.slots_for-slots.ensures.few),
    )
