use Rattle.std.proofs.Common.{refl}
use Rattle.nio_steps.proofs.CallLaws.{returned, left_ask, ran_then, left_of_call}
use Rattle.nio_steps.specs.ChannelCalls.{open_channel_plan, opened_channel}
use Rattle.nio_words.proofs.Views.{step_acts}
use Rattle.nio_words.specs.Passes.{limits_of}
use Rattle.nio_channel.proofs.Chains.{each_ok}
use Rattle.nio_channel.proofs.Made.{all_made_below}
use Rattle.nio_channel.proofs.opening.open_channel.Goals as goal

pub make_from-made-requires-clause-lower : goal.make_from-made-requires-clause-lower
make_from-made-requires-clause-lower c = all_made_below (step_acts c.look_channels-mark.ensures refl)

pub returns-clause-call : goal.returns-clause-call
unfolding open_channel_plan
returns-clause-call c =
    returned (left_ask _ (step_acts c.look_channels-mark.ensures refl)
    (ran_then (opened_channel (limits_of c.args.w.now) c.args.kind) c.make_from-made.ensures.call
    (left_of_call c.open_made.ensures.call)))

pub returns-clause-made : goal.returns-clause-made
returns-clause-made c = each_ok c.open_made.result c.open_made.ensures.opened (λ chan here. here.has)

pub returns-clause-kind : goal.returns-clause-kind
returns-clause-kind c = each_ok c.open_made.result c.open_made.ensures.opened (λ chan here. here.kind)
