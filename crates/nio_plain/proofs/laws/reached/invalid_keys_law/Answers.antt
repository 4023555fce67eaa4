use Rattle.nio_plain.proofs.ReachedLaws.{published_stays, invalid_keys_stay_invalid}
use Rattle.nio_plain.proofs.laws.reached.invalid_keys_law.Goals as goal

pub returns-clause-published : goal.returns-clause-published
returns-clause-published c = published_stays

pub returns-clause-invalid : goal.returns-clause-invalid
returns-clause-invalid c = invalid_keys_stay_invalid
