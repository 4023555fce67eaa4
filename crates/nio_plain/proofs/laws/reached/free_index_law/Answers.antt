use Rattle.nio_plain.proofs.ReachedLaws.{free_index_has_no_key}
use Rattle.nio_plain.proofs.laws.reached.free_index_law.Goals as goal

pub returns : goal.returns
returns c = free_index_has_no_key
