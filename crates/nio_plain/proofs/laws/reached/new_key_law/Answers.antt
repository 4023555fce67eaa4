use Rattle.nio_plain.proofs.ReachedLaws.{new_key_is_new, new_keys_differ}
use Rattle.nio_plain.proofs.laws.reached.new_key_law.Goals as goal

pub returns-clause-new : goal.returns-clause-new
returns-clause-new c = new_key_is_new

pub returns-clause-differ : goal.returns-clause-differ
returns-clause-differ c = new_keys_differ
