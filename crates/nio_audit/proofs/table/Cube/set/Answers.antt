use Rattle.std.proofs.lemmas.Result.{on_ok_weaker}
use Rattle.nio_audit.proofs.TableSets.{cube-set}
use Rattle.nio_audit.proofs.table.Cube.set.Goals as goal

pub returns : goal.returns
returns g c = on_ok_weaker _ (cube-set _ _ c.args.m c.args.n c.args.o c.args.value) c.set.ensures
