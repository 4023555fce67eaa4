use Rattle.nio_select.proofs.ListedBound.{listed_calls_are_bounded}
use Rattle.nio_select.proofs.laws.listed_steps_law.Goals as goal

pub returns : goal.returns
returns c = listed_calls_are_bounded c.listed_bound_law.ensures
