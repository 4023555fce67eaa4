use Rattle.std.proofs.lemmas.Result.{on_ok_weaker}
use Rattle.nio_audit.proofs.TableSets.{row-set}
use Rattle.nio_audit.proofs.table.Row.set.Goals as goal

pub returns : goal.returns
returns g c = on_ok_weaker _ (row-set _ _ c.args.n c.args.value) c.set.ensures
