use Rattle.std.proofs.Common.{refl}
use Rattle.nio_steps.specs.SelectCalls.{keys_plan, list_key}
use Rattle.nio_words.proofs.Views.{step_acts}
use Rattle.nio_channel.proofs.Claimed.{mark_inside}
use Rattle.nio_select.proofs.Listings.{lists_all}
use Rattle.nio_select.proofs.listing.keys.Goals as goal

pub list_below-requires-clause-bound : goal.list_below-requires-clause-bound
list_below-requires-clause-bound c = mark_inside (step_acts c.look_keys-bound.ensures refl)

pub returns-clause-call : goal.returns-clause-call
unfolding keys_plan
returns-clause-call c =
    lists_all list_key (step_acts c.look_gate.ensures refl) c.if-look_gate.false
    (step_acts c.look_keys-bound.ensures refl) c.list_below.ensures.call
