use Rattle.std.proofs.Common.{refl, rules}
use Rattle.nio_words.proofs.Views.{channel_found, step_acts}
use Rattle.nio_keys.proofs.finds.find_channel.Goals as goal

pub returns-then-serial-found-clause-found : goal.returns-then-serial-found-clause-found
returns-then-serial-found-clause-found c =
    record {
      inside = search rules;
      opened = channel_found c.args.serial (step_acts c.look_channel-found.ensures refl)
          (search rules);
    }
