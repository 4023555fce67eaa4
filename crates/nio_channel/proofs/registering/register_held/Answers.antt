use Rattle.std.proofs.Common.{◌≡◌, true, false, not, refl, rules}
use Rattle.nio_history.specs.Sets.{is_open_channel}
use Rattle.nio_steps.proofs.CallLaws.{returned, left_ask, left_else, left_of_call}
use Rattle.nio_words.proofs.Pins.{no_pin_stays}
use Rattle.nio_words.proofs.Views.{step_acts}
use Rattle.nio_channel.proofs.Held.{hold_stays, found_unblocked}
use Rattle.nio_channel.proofs.registering.register_held.Goals as goal

pub returns-then-not-is_open-clause-held : goal.returns-then-not-is_open-clause-held
returns-then-not-is_open-clause-held c = hold_stays c.look_channel-found.ensures refl refl c.requires.held

pub returns-then-not-is_open-clause-unpinned : goal.returns-then-not-is_open-clause-unpinned
returns-then-not-is_open-clause-unpinned c =
    no_pin_stays (step_acts c.look_channel-found.ensures refl) refl c.requires.unpinned

pub returns-then-found-clause-held : goal.returns-then-found-clause-held
returns-then-found-clause-held c = hold_stays c.look_channel-found.ensures refl refl c.requires.held

pub returns-then-found-clause-unpinned : goal.returns-then-found-clause-unpinned
returns-then-found-clause-unpinned c =
    no_pin_stays (step_acts c.look_channel-found.ensures refl) refl c.requires.unpinned

pub register_unblocked-requires-clause-unblocked : goal.register_unblocked-requires-clause-unblocked
register_unblocked-requires-clause-unblocked c =
    let opens : is_open_channel c.look_channel-found.result c.args.wanted.now.chan.serial ≡ true = search rules in
    found_unblocked c.look_channel-found.ensures opens c.if-found.false c.requires.held c.requires.unclosed

pub register_unblocked-requires-clause-unpinned : goal.register_unblocked-requires-clause-unpinned
register_unblocked-requires-clause-unpinned c =
    no_pin_stays (step_acts c.look_channel-found.ensures refl) refl c.requires.unpinned

pub returns-clause-call : goal.returns-clause-call
returns-clause-call c =
    let opens : not (is_open_channel c.look_channel-found.result c.args.wanted.now.chan.serial)
    ≡ false = search rules in
    returned (left_ask _ (step_acts c.look_channel-found.ensures refl)
    (left_else _ _ _ opens
    (left_else _ _ _ c.if-found.false (left_of_call c.register_unblocked.ensures.call))))
