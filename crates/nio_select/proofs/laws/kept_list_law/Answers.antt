use Rattle.nio_select.proofs.ListedSteps.{lists_are_kept}
use Rattle.nio_select.proofs.laws.kept_list_law.Goals as goal

pub returns : goal.returns
returns c = lists_are_kept
