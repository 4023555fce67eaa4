use Rattle.std.proofs.Common.{◌≡◌, ◌||◌, ap, rules}
use Rattle.std.specs.Prelude.{is_some}
use Rattle.nio_steps.proofs.CallLaws.{returned, ran_then}
use Rattle.nio_steps.specs.Plan.{reply}
use Rattle.nio_channel.proofs.Chains.{left_at}
use Rattle.nio_channel.proofs.keys.has_key_in.Goals as goal

pub returns-then-before-clause-call : goal.returns-then-before-clause-call
returns-then-before-clause-call c =
    let same : (c.args.before || is_some c.enrolled_key-here.result) ≡ c.args.before = search rules in
    returned (ran_then (λ here. reply (c.args.before || is_some here)) c.enrolled_key-here.ensures.call
    (left_at (ap reply same) c.enrolled_key-here.ensures.call.acts))

pub returns-else-before-clause-call : goal.returns-else-before-clause-call
returns-else-before-clause-call c =
    let same : (c.args.before || is_some c.enrolled_key-here.result) ≡ c.is_some.result = search rules in
    returned (ran_then (λ here. reply (c.args.before || is_some here)) c.enrolled_key-here.ensures.call
    (left_at (ap reply same) c.enrolled_key-here.ensures.call.acts))
