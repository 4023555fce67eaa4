use Rattle.nio_orderly.proofs.AfterClosing.{settled_loses_no_key}
use Rattle.nio_orderly.proofs.Careful.{beginnings_are_careful}
use Rattle.nio_orderly.proofs.Owed.{nothing_is_lost}
use Rattle.nio_orderly.proofs.Prepared.{prepared_is_said}
use Rattle.nio_orderly.proofs.laws.owed_law.Goals as goal

pub returns-clause-owed : goal.returns-clause-owed
returns-clause-owed c = nothing_is_lost

pub returns-clause-settled : goal.returns-clause-settled
returns-clause-settled c = settled_loses_no_key

pub returns-clause-beginnings : goal.returns-clause-beginnings
returns-clause-beginnings c = beginnings_are_careful

pub returns-clause-prepared : goal.returns-clause-prepared
returns-clause-prepared c = prepared_is_said
