use Rattle.nio_link.proofs.Limits.{at_most, next_fails}
use Rattle.nio_link.proofs.memory.laws.write_limit_law.Goals as goal

pub returns-clause-most : goal.returns-clause-most
returns-clause-most c = at_most

pub returns-clause-fails : goal.returns-clause-fails
returns-clause-fails c = next_fails
