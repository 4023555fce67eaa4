use Rattle.nio_plain.proofs.ReachedLaws.{registered_is_in_a_key_set, registered_is_non_blocking}
use Rattle.nio_plain.proofs.laws.reached.registered_law.Goals as goal

pub returns-clause-told : goal.returns-clause-told
returns-clause-told c = registered_is_in_a_key_set

pub returns-clause-non_blocking : goal.returns-clause-non_blocking
returns-clause-non_blocking c = registered_is_non_blocking
