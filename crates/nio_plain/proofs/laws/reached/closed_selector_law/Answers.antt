use Rattle.nio_plain.proofs.ReachedLaws.{closed_selector_is_empty}
use Rattle.nio_plain.proofs.laws.reached.closed_selector_law.Goals as goal

pub returns : goal.returns
returns c = closed_selector_is_empty
