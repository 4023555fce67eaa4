use Rattle.nio_steps.proofs.BoundLists.{listed_selection_is_bounded}
use Rattle.nio_steps.proofs.laws.listed_bound_law.Goals as goal

pub returns : goal.returns
returns c = listed_selection_is_bounded
