use Rattle.std.proofs.Common.{refl, rules}
use Rattle.nio_steps.proofs.CallLaws.{returned, left_reply, left_start}
use Rattle.nio_steps.proofs.SweepLaws.{seek_no, seek_yes, seek_done}
use Rattle.nio_steps.specs.Plan.{reply}
use Rattle.nio_channel.proofs.claiming.claim_first.Goals as goal

pub loop-i-init : goal.loop-i-init
loop-i-init c = (
  c.requires.may,
  c.requires.unpinned,
  c.requires.lower,
  left_reply (left_start _ _ _ c.requires.may.unblocked.held.ready.pass.legal),
)

pub returns-in-Some-clause-call : goal.returns-in-Some-clause-call
returns-in-Some-clause-call c =
    returned (seek_yes _ _ _ reply _ (search rules) c.loop-i.invariant.3 c.in-Some.ensures.call)

pub loop-i-preserved : goal.loop-i-preserved
loop-i-preserved c = (
  c.in_default.ensures.may,
  c.in_default.ensures.unpinned refl,
  c.in_default.ensures.lower,
  seek_no _ _ _ reply (search rules) c.loop-i.invariant.3 c.in_default.ensures.call,
)

pub returns-clause-call : goal.returns-clause-call
returns-clause-call c = returned (seek_done _ _ _ reply (search rules) c.loop-i.invariant.3)
