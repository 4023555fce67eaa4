use Rattle.std.proofs.Common.{Ok, arith, rules}
use Rattle.nio_steps.proofs.CallLaws.{returned}
use Rattle.nio_steps.proofs.SweepLaws.{sweep_turn, sweep_done}
use Rattle.nio_steps.specs.Plan.{reply}
use Rattle.nio_channel.proofs.Claimed.{all_claimed_after}
use Rattle.nio_select.proofs.listing.list_selected_below.Goals as goal

pub loop-i-preserved : goal.loop-i-preserved
loop-i-preserved c = (
  c.list_selected.ensures.ready,
  c.list_selected.ensures.unpinned,
  all_claimed_after c.args.sel c.args.bound c.list_selected.ensures.call.acts c.loop-i.invariant.2,
  omega arith,
  omega arith,
  sweep_turn _ _ _ _ _ (λ listed. reply (Ok listed)) (search rules) c.loop-i.invariant.5 c.list_selected.ensures.call,
)

pub returns-clause-call : goal.returns-clause-call
returns-clause-call c = returned (sweep_done _ _ _ _ (λ listed. reply (Ok listed)) (search rules) c.loop-i.invariant.5)
