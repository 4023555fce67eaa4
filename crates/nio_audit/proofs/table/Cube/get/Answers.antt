use Rattle.nio_audit.specs.TableWords.{cube}
use Rattle.nio_audit.proofs.table.Cube.get.Goals as goal

pub returns : goal.returns
unfolding cube
returns g c = c.get.ensures
