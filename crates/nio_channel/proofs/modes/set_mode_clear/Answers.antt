use Rattle.std.proofs.Common.{◌≡◌, None, refl, rules}
use Rattle.nio_channel.proofs.Held.{hold_stays}
use Rattle.nio_channel.proofs.modes.set_mode_clear.Goals as goal

pub set_mode-requires-clause-clear : goal.set_mode-requires-clause-clear
set_mode-requires-clause-clear c =
    let none : c.args.registered ≡ None = search rules in
    c.requires.clear none

pub returns-clause-held : goal.returns-clause-held
returns-clause-held c = hold_stays c.set_mode.ensures refl refl c.requires.held
