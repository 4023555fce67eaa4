use Rattle.std.proofs.Common.{◌≡◌, true, false, not, None, refl, rules}
use Rattle.std.specs.Prelude.{is_some}
use Rattle.nio_base.specs.Kind.{valid_operations}
use Rattle.nio_history.proofs.PassViews.{channel_after, key_after}
use Rattle.nio_history.specs.Sets.{is_open_channel}
use Rattle.nio_steps.proofs.CallLaws.{returned, left_ask, left_then, left_else, left_after, ran_then}
use Rattle.nio_steps.specs.ChannelCalls.{try_register_plan}
use Rattle.nio_base.specs.Ops.{is_within}
use Rattle.nio_words.proofs.Pins.{no_pin_stays}
use Rattle.nio_words.proofs.Stepping.{still_ready}
use Rattle.nio_words.proofs.Views.{step_acts}
use Rattle.nio_channel.proofs.Chains.{each_ok}
use Rattle.nio_channel.proofs.Held.{takes_the_hold, unclosed_yet}
use Rattle.nio_channel.proofs.Made.{is_made_of}
use Rattle.nio_channel.proofs.Registered.{its_answer, cancelled_after}
use Rattle.nio_channel.proofs.registering.try_register.Goals as goal

pub returns-then-not-supports-clause-call : goal.returns-then-not-supports-clause-call
unfolding try_register_plan
returns-then-not-supports-clause-call c =
    let outside : not (is_within c.args.ops (valid_operations c.look_channel-found.result.kind))
    ≡ true = search rules in
    returned (left_ask _ (step_acts c.look_channel-found.ensures refl)
    (left_then _ _ _ outside (left_after (step_acts c.look_channel-found.ensures refl))))

pub returns-then-not-supports-clause-unpinned : goal.returns-then-not-supports-clause-unpinned
returns-then-not-supports-clause-unpinned c =
    no_pin_stays (step_acts c.look_channel-found.ensures refl) refl c.requires.unpinned

pub returns-then-not-is_open-clause-unpinned : goal.returns-then-not-is_open-clause-unpinned
returns-then-not-is_open-clause-unpinned c =
    no_pin_stays (step_acts c.look_channel-found.ensures refl) refl c.requires.unpinned

pub try_hold_bit-requires-clause-made : goal.try_hold_bit-requires-clause-made
try_hold_bit-requires-clause-made c =
    is_made_of (channel_after (step_acts c.look_channel-found.ensures refl) c.requires.channel)

pub returns-then-is_some-clause-call : goal.returns-then-is_some-clause-call
unfolding try_register_plan
returns-then-is_some-clause-call c =
    let within : not (is_within c.args.ops (valid_operations c.look_channel-found.result.kind))
    ≡ false = search rules in
    let opens : not (is_open_channel c.look_channel-found.result c.args.chan.serial) ≡ false = search rules in
    let held : is_some c.try_hold_bit.result ≡ true = search rules in
    returned (left_ask _ (step_acts c.look_channel-found.ensures refl)
    (left_else _ _ _ within
    (left_else _ _ _ opens
    (left_ask _ (step_acts c.try_hold_bit.ensures refl)
    (left_then _ _ _ held (left_after (step_acts c.try_hold_bit.ensures refl)))))))

pub returns-then-is_some-clause-unpinned : goal.returns-then-is_some-clause-unpinned
returns-then-is_some-clause-unpinned c =
    no_pin_stays (step_acts c.try_hold_bit.ensures refl) refl
    (no_pin_stays (step_acts c.look_channel-found.ensures refl) refl c.requires.unpinned)

pub register_held-answer-requires-clause-held : goal.register_held-answer-requires-clause-held
register_held-answer-requires-clause-held c =
    let free : c.try_hold_bit.result ≡ None = search rules in
    takes_the_hold c.try_hold_bit.ensures free (still_ready _ _ _ _ _ _ c.look_channel-found.ensures c.requires.ready)
    c.requires.channel.inside

pub register_held-answer-requires-clause-unclosed : goal.register_held-answer-requires-clause-unclosed
register_held-answer-requires-clause-unclosed c =
    let free : c.try_hold_bit.result ≡ None = search rules in
    unclosed_yet c.args.chan c.try_hold_bit.ensures free

pub register_held-answer-requires-clause-unpinned : goal.register_held-answer-requires-clause-unpinned
register_held-answer-requires-clause-unpinned c =
    no_pin_stays (step_acts c.try_hold_bit.ensures refl) refl
    (no_pin_stays (step_acts c.look_channel-found.ensures refl) refl c.requires.unpinned)

pub returns-clause-call : goal.returns-clause-call
unfolding try_register_plan
returns-clause-call c =
    let within : not (is_within c.args.ops (valid_operations c.look_channel-found.result.kind))
    ≡ false = search rules in
    let opens : not (is_open_channel c.look_channel-found.result c.args.chan.serial) ≡ false = search rules in
    let free : is_some c.try_hold_bit.result ≡ false = search rules in
    returned (left_ask _ (step_acts c.look_channel-found.ensures refl)
    (left_else _ _ _ within (left_else _ _ _ opens (left_ask _ (step_acts c.try_hold_bit.ensures refl)
    (left_else _ _ _ free
    (ran_then _ c.register_held-answer.ensures.call
    (left_ask _ (step_acts c.release.ensures refl) (left_after (step_acts c.release.ensures refl)))))))))

pub returns-clause-in_selector : goal.returns-clause-in_selector
returns-clause-in_selector c =
    each_ok c.register_held-answer.result c.register_held-answer.ensures.registered (λ k here. here.in_selector)

pub returns-clause-key : goal.returns-clause-key
returns-clause-key c =
    each_ok c.register_held-answer.result c.register_held-answer.ensures.registered
    (λ k here. key_after (step_acts c.release.ensures refl) here.has)

pub returns-clause-its : goal.returns-clause-its
returns-clause-its c =
    each_ok c.register_held-answer.result c.register_held-answer.ensures.registered
    (λ k here. its_answer c.release.ensures here)

pub returns-clause-cancelled : goal.returns-clause-cancelled
returns-clause-cancelled c =
    each_ok c.register_held-answer.result c.register_held-answer.ensures.registered
    (λ k here. cancelled_after c.args.chan k c.release.ensures refl refl refl here.cancelled)

pub returns-clause-unpinned : goal.returns-clause-unpinned
returns-clause-unpinned c = no_pin_stays (step_acts c.release.ensures refl) refl c.register_held-answer.ensures.unpinned
