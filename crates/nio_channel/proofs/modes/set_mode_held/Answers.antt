use Rattle.std.proofs.Common.{◌≡◌, true, false, refl, rules}
use Rattle.nio_history.specs.Sets.{is_open_channel}
use Rattle.nio_steps.proofs.CallLaws.{returned, left_ask, left_then, left_of_call}
use Rattle.nio_words.proofs.Views.{step_acts}
use Rattle.nio_channel.proofs.Held.{hold_stays}
use Rattle.nio_channel.proofs.Made.{unopen_closed}
use Rattle.nio_channel.proofs.modes.set_mode_held.Goals as goal

pub returns-then-not-is_open-clause-held : goal.returns-then-not-is_open-clause-held
returns-then-not-is_open-clause-held c = hold_stays c.look_channel.ensures refl refl c.requires.held

pub returns-then-not-is_open-clause-closed : goal.returns-then-not-is_open-clause-closed
returns-then-not-is_open-clause-closed c = λ _.
    let unopen : is_open_channel c.look_channel.result c.args.chan.serial ≡ false = search rules in
    unopen_closed (step_acts c.look_channel.ensures refl) c.requires.opened unopen

pub set_mode_open-requires : goal.set_mode_open-requires
set_mode_open-requires c = hold_stays c.look_channel.ensures refl refl c.requires.held

pub returns-clause-call : goal.returns-clause-call
returns-clause-call c =
    let opens : is_open_channel c.look_channel.result c.args.chan.serial ≡ true = search rules in
    returned (left_ask _ (step_acts c.look_channel.ensures refl)
    (left_then _ _ _ opens (left_of_call c.set_mode_open.ensures.call)))
