use Rattle.nio_audit.specs.TableWords.{row}
use Rattle.nio_audit.proofs.table.Row.get.Goals as goal

pub returns : goal.returns
unfolding row
returns g c = c.get.ensures
