use Rattle.nio_audit.specs.TableWords.{grid}
use Rattle.nio_audit.proofs.table.Grid.get.Goals as goal

pub returns : goal.returns
unfolding grid
returns g c = c.get.ensures
