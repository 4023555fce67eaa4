use Rattle.std.proofs.Common.{◌||◌, ap, sym, ◌∙◌}
use Rattle.nio_history.specs.OwnEvents.{has, reopens}
use Rattle.nio_history.specs.PassViews.{done_between}
use Rattle.nio_steps.proofs.CallLaws.{returned, ran_then, left_of_call}
use Rattle.nio_steps.specs.ChannelCalls.{reopen_clear}
use Rattle.nio_words.specs.Views.{view}
use Rattle.nio_channel.proofs.Done.{has_then}
use Rattle.nio_channel.proofs.reopening.reopen_held.Goals as goal

pub returns-clause-call : goal.returns-clause-call
returns-clause-call c =
    returned (ran_then (reopen_clear c.args.number c.args.from) c.first_key-registered.ensures.call
    (left_of_call c.reopen_clear.ensures.call))

pub returns-clause-took : goal.returns-clause-took
returns-clause-took c =
    let later = has (reopens c.args.number.0)
    (done_between c.args.me (view c.args.w.now c.first_key-registered.new.p)
    (view c.args.w.now c.reopen_clear.new.p)) in
    c.reopen_clear.ensures.took
    ∙ sym (has_then (reopens c.args.number.0) c.first_key-registered.ensures.call.acts c.reopen_clear.ensures.call.acts
    ∙ ap (λ b. b || later) c.first_key-registered.ensures.spares)
