use Rattle.std.proofs.Common.{◌≡◌, true, false, refl, sym, ◌∙◌, rules}
use Rattle.nio_history.proofs.PassViews.{channel_after}
use Rattle.nio_history.specs.Sets.{is_open_channel}
use Rattle.nio_steps.proofs.CallLaws.{returned, left_ask, left_then, left_of_call}
use Rattle.nio_steps.specs.ChannelCalls.{close_channel_plan}
use Rattle.nio_words.proofs.Pins.{no_pin_stays}
use Rattle.nio_words.proofs.Views.{step_acts, was_open_found}
use Rattle.nio_channel.proofs.Chans.{open_parts}
use Rattle.nio_channel.proofs.Done.{has_done, has_then}
use Rattle.nio_channel.proofs.Made.{unopen_closed}
use Rattle.nio_history.specs.OwnEvents.{closes}
use Rattle.nio_channel.proofs.closing.close_channel.Goals as goal

pub returns-then-not-is_open-clause-took : goal.returns-then-not-is_open-clause-took
returns-then-not-is_open-clause-took c =
    sym (has_done (closes c.args.chan) (step_acts c.look_channel-found.ensures refl))

pub returns-then-not-is_open-clause-closed : goal.returns-then-not-is_open-clause-closed
returns-then-not-is_open-clause-closed c =
    let unopen : is_open_channel c.look_channel-found.result c.args.chan.serial ≡ false = search rules in
    unopen_closed (step_acts c.look_channel-found.ensures refl) c.requires.channel unopen

pub returns-then-not-is_open-clause-unpinned : goal.returns-then-not-is_open-clause-unpinned
returns-then-not-is_open-clause-unpinned c =
    no_pin_stays (step_acts c.look_channel-found.ensures refl) refl c.requires.unpinned

pub close_found-requires-clause-channel : goal.close_found-requires-clause-channel
close_found-requires-clause-channel c =
    channel_after (step_acts c.look_channel-found.ensures refl) c.requires.channel

pub close_found-requires-clause-was_open : goal.close_found-requires-clause-was_open
close_found-requires-clause-was_open c =
    let opens : is_open_channel c.look_channel-found.result c.args.chan.serial ≡ true = search rules in
    let is = open_parts c.look_channel-found.result c.args.chan.serial opens in
    was_open_found (step_acts c.look_channel-found.ensures refl) (λ f. refl) is.made is.open_now

pub close_found-requires-clause-unpinned : goal.close_found-requires-clause-unpinned
close_found-requires-clause-unpinned c =
    no_pin_stays (step_acts c.look_channel-found.ensures refl) refl c.requires.unpinned

pub returns-clause-call : goal.returns-clause-call
unfolding close_channel_plan
returns-clause-call c =
    let opens : is_open_channel c.look_channel-found.result c.args.chan.serial ≡ true = search rules in
    returned (left_ask _ (step_acts c.look_channel-found.ensures refl)
    (left_then _ _ _ opens (left_of_call c.close_found.ensures.call)))

pub returns-clause-took : goal.returns-clause-took
returns-clause-took c =
    c.close_found.ensures.took
    ∙ sym (has_then (closes c.args.chan) (step_acts c.look_channel-found.ensures refl) c.close_found.ensures.call.acts)
