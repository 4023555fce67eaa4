use Rattle.nio_select.proofs.Closed.{closings_remove_keys, closings_find_high}
use Rattle.nio_select.proofs.laws.closed_law.Goals as goal

pub returns-clause-removes : goal.returns-clause-removes
returns-clause-removes c = closings_remove_keys c.close_law.ensures

pub returns-clause-finds : goal.returns-clause-finds
returns-clause-finds c = closings_find_high
