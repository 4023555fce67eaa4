use Rattle.nio_words.proofs.GoingOn.{facts_stand, invalid_keys_stand}
use Rattle.nio_words.proofs.laws.permanent_law.Goals as goal

pub returns-clause-facts : goal.returns-clause-facts
returns-clause-facts c = facts_stand

pub returns-clause-invalid : goal.returns-clause-invalid
returns-clause-invalid c = invalid_keys_stand
