use Rattle.nio_select.proofs.ChangeOrder.{changes_are_in_order}
use Rattle.nio_select.proofs.laws.told_changes_law.Goals as goal

pub returns : goal.returns
returns c = changes_are_in_order
