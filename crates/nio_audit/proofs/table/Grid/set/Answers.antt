use Rattle.std.proofs.lemmas.Result.{on_ok_weaker}
use Rattle.nio_audit.proofs.TableSets.{grid-set}
use Rattle.nio_audit.proofs.table.Grid.set.Goals as goal

pub returns : goal.returns
returns g c = on_ok_weaker _ (grid-set _ _ c.args.m c.args.n c.args.value) c.set.ensures
