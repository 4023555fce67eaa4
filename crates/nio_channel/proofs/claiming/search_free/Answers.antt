use Rattle.std.proofs.Common.{refl, rules}
use Rattle.nio_steps.proofs.CallLaws.{returned, left_reply, left_start}
use Rattle.nio_steps.proofs.SweepLaws.{seek_no, seek_yes, seek_done}
use Rattle.nio_steps.specs.Plan.{reply}
use Rattle.nio_channel.proofs.claiming.search_free.Goals as goal

pub loop-j-init : goal.loop-j-init
loop-j-init c =
    (c.requires.may, c.requires.unpinned, left_reply (left_start _ _ _ c.requires.may.unblocked.held.ready.pass.legal))

pub returns-in-Some-clause-call : goal.returns-in-Some-clause-call
returns-in-Some-clause-call c =
    returned (seek_yes _ _ _ reply _ (search rules) c.loop-j.invariant.2 c.in-Some.ensures.call)

pub loop-j-preserved : goal.loop-j-preserved
loop-j-preserved c = (
  c.in_default.ensures.may,
  c.in_default.ensures.unpinned refl,
  seek_no _ _ _ reply (search rules) c.loop-j.invariant.2 c.in_default.ensures.call,
)

pub returns-clause-call : goal.returns-clause-call
returns-clause-call c = returned (seek_done _ _ _ reply (search rules) c.loop-j.invariant.2)
