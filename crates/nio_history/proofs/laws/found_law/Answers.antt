use Rattle.nio_history.proofs.Finds.{looks_tell, found_stands}
use Rattle.nio_history.proofs.laws.found_law.Goals as goal

pub returns-clause-looks : goal.returns-clause-looks
returns-clause-looks c = looks_tell

pub returns-clause-stands : goal.returns-clause-stands
returns-clause-stands c = found_stands
