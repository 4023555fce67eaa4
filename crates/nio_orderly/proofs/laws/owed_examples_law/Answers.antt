use Rattle.nio_orderly.proofs.Examples.{debt_stands, cancellation_is_lost}
use Rattle.nio_orderly.proofs.laws.owed_examples_law.Goals as goal

pub returns-clause-debt : goal.returns-clause-debt
returns-clause-debt c = debt_stands

pub returns-clause-lost : goal.returns-clause-lost
returns-clause-lost c = cancellation_is_lost
