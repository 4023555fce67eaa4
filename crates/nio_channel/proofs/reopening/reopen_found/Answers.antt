use Rattle.std.proofs.Common.{◌≡◌, true, false, None, refl, sym, ◌∙◌, rules}
use Rattle.std.specs.Prelude.{is_some}
use Rattle.nio_history.specs.OwnEvents.{reopens}
use Rattle.nio_steps.proofs.CallLaws.{returned, left_ask, left_then, left_else, left_after, ran_then}
use Rattle.nio_words.proofs.Views.{step_acts}
use Rattle.nio_channel.proofs.Chains.{each_ok}
use Rattle.nio_channel.proofs.Done.{has_done, has_between}
use Rattle.nio_channel.proofs.Held.{takes_the_hold}
use Rattle.nio_channel.proofs.Made.{opened_after}
use Rattle.nio_channel.proofs.reopening.reopen_found.Goals as goal

pub returns-then-is_some-clause-call : goal.returns-then-is_some-clause-call
returns-then-is_some-clause-call c =
    let held : is_some c.try_hold_bit.result ≡ true = search rules in
    returned (left_ask _ (step_acts c.try_hold_bit.ensures refl)
    (left_then _ _ _ held (left_after (step_acts c.try_hold_bit.ensures refl))))

pub returns-then-is_some-clause-took : goal.returns-then-is_some-clause-took
returns-then-is_some-clause-took c =
    sym (has_done (reopens c.args.number.0) (step_acts c.try_hold_bit.ensures refl))

pub reopen_held-answer-requires-clause-held : goal.reopen_held-answer-requires-clause-held
reopen_held-answer-requires-clause-held c =
    let free : c.try_hold_bit.result ≡ None = search rules in
    takes_the_hold c.try_hold_bit.ensures free c.requires.ready c.requires.channel

pub returns-clause-call : goal.returns-clause-call
returns-clause-call c =
    let free : is_some c.try_hold_bit.result ≡ false = search rules in
    returned (left_ask _ (step_acts c.try_hold_bit.ensures refl) (left_else _ _ _ free
    (ran_then _ c.reopen_held-answer.ensures.call
    (left_ask _ (step_acts c.release.ensures refl) (left_after (step_acts c.release.ensures refl))))))

pub returns-clause-opened : goal.returns-clause-opened
returns-clause-opened c =
    each_ok c.reopen_held-answer.result c.reopen_held-answer.ensures.opened
    (λ chan here. opened_after (step_acts c.release.ensures refl) here)

pub returns-clause-took : goal.returns-clause-took
returns-clause-took c =
    c.reopen_held-answer.ensures.took
    ∙ sym (has_between (reopens c.args.number.0) (step_acts c.try_hold_bit.ensures refl)
    c.reopen_held-answer.ensures.call.acts (step_acts c.release.ensures refl) refl refl)
