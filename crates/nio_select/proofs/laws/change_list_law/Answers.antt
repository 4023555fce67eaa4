use Rattle.nio_select.proofs.ChangeLists.{changes_are_listed}
use Rattle.nio_select.proofs.laws.change_list_law.Goals as goal

pub returns : goal.returns
returns c = changes_are_listed
