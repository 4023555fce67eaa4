use Rattle.std.proofs.Common.{◌≡◌, false, refl, rules}
use Rattle.nio_history.specs.Sets.{is_open_channel}
use Rattle.nio_words.proofs.Views.{step_acts}
use Rattle.nio_channel.proofs.Made.{unopen_closed}
use Rattle.nio_channel.proofs.looks.is_open.Goals as goal

pub returns-clause-closed : goal.returns-clause-closed
returns-clause-closed c = λ unopen.
    let is : is_open_channel c.look_channel.result c.args.chan.serial ≡ false = search rules in
    unopen_closed (step_acts c.look_channel.ensures refl) c.requires.channel is
