use Rattle.nio_history.proofs.Stays.{facts_are_permanent, invalid_keys_stay_invalid}
use Rattle.nio_history.proofs.laws.permanent_law.Goals as goal

pub returns-clause-permanent : goal.returns-clause-permanent
returns-clause-permanent c = facts_are_permanent

pub returns-clause-invalid : goal.returns-clause-invalid
returns-clause-invalid c = invalid_keys_stay_invalid
