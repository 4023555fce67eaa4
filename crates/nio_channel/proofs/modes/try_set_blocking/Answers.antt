use Rattle.std.proofs.Common.{◌≡◌, true, false, None, refl, rules}
use Rattle.std.specs.Prelude.{is_some}
use Rattle.nio_history.proofs.PassViews.{channel_after}
use Rattle.nio_history.specs.Sets.{is_open_channel}
use Rattle.nio_steps.proofs.CallLaws.{returned, left_ask, left_then, left_else, left_after, ran_then}
use Rattle.nio_steps.specs.ChannelCalls.{try_set_blocking_plan}
use Rattle.nio_words.proofs.Stepping.{still_ready}
use Rattle.nio_words.proofs.Views.{step_acts}
use Rattle.nio_channel.proofs.Held.{takes_the_hold}
use Rattle.nio_channel.proofs.Made.{closed_after, is_made_of, unopen_closed}
use Rattle.nio_channel.proofs.modes.try_set_blocking.Goals as goal

pub returns-then-not-is_open-clause-closed : goal.returns-then-not-is_open-clause-closed
returns-then-not-is_open-clause-closed c = λ _.
    let unopen : is_open_channel c.look_channel.result c.args.chan.serial ≡ false = search rules in
    unopen_closed (step_acts c.look_channel.ensures refl) c.requires.channel unopen

pub try_hold_bit-requires-clause-made : goal.try_hold_bit-requires-clause-made
try_hold_bit-requires-clause-made c =
    is_made_of (channel_after (step_acts c.look_channel.ensures refl) c.requires.channel)

pub returns-then-is_some-clause-call : goal.returns-then-is_some-clause-call
unfolding try_set_blocking_plan
returns-then-is_some-clause-call c =
    let opens : is_open_channel c.look_channel.result c.args.chan.serial ≡ true = search rules in
    let held : is_some c.try_hold_bit.result ≡ true = search rules in
    returned (left_ask _ (step_acts c.look_channel.ensures refl)
    (left_then _ _ _ opens (left_ask _ (step_acts c.try_hold_bit.ensures refl)
    (left_then _ _ _ held (left_after (step_acts c.try_hold_bit.ensures refl))))))

pub set_mode_held-answer-requires-clause-held : goal.set_mode_held-answer-requires-clause-held
set_mode_held-answer-requires-clause-held c =
    let free : c.try_hold_bit.result ≡ None = search rules in
    takes_the_hold c.try_hold_bit.ensures free (still_ready _ _ _ _ _ _ c.look_channel.ensures c.requires.ready)
    c.requires.channel.inside

pub set_mode_held-answer-requires-clause-opened : goal.set_mode_held-answer-requires-clause-opened
set_mode_held-answer-requires-clause-opened c =
    channel_after (step_acts c.try_hold_bit.ensures refl)
    (channel_after (step_acts c.look_channel.ensures refl) c.requires.channel)

pub returns-clause-call : goal.returns-clause-call
unfolding try_set_blocking_plan
returns-clause-call c =
    let opens : is_open_channel c.look_channel.result c.args.chan.serial ≡ true = search rules in
    let free : is_some c.try_hold_bit.result ≡ false = search rules in
    returned (left_ask _ (step_acts c.look_channel.ensures refl)
    (left_then _ _ _ opens (left_ask _ (step_acts c.try_hold_bit.ensures refl)
    (left_else _ _ _ free
    (ran_then _ c.set_mode_held-answer.ensures.call
    (left_ask _ (step_acts c.release.ensures refl) (left_after (step_acts c.release.ensures refl))))))))

pub returns-clause-closed : goal.returns-clause-closed
returns-clause-closed c = λ closed.
    closed_after c.args.chan (step_acts c.release.ensures refl) (c.set_mode_held-answer.ensures.closed closed)
