use Rattle.nio_steps.proofs.GoneLaws.{cancelled_keys_go_at_end}
use Rattle.nio_steps.proofs.MarkedLaws.{marks_looked_keys}
use Rattle.nio_steps.proofs.SelectionLaws.{again_goes_on, counts_selection}
use Rattle.nio_steps.proofs.ToldLaws.{marks_only_as_told}
use Rattle.nio_steps.proofs.laws.told_law.Goals as goal

pub returns : goal.returns
returns c =
    record {
      only_as_told = marks_only_as_told;
      looked = marks_looked_keys;
      goes_on = again_goes_on;
      counts = counts_selection;
      cancelled = cancelled_keys_go_at_end;
    }
