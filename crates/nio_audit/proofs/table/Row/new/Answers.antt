use mathlib.Core.Path.{fun_ext}
use Rattle.nio_audit.specs.TableWords.{row}
use Rattle.nio_audit.proofs.table.Row.new.Goals as goal

pub returns : goal.returns
unfolding row
returns g c = fun_ext c.new.ensures
