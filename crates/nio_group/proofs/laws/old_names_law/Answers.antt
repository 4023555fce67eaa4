use Rattle.nio_group.proofs.NumberLemmas.{old-names-closed}
use Rattle.nio_group.proofs.laws.old_names_law.Goals as goal

pub returns : goal.returns
returns c = old-names-closed
