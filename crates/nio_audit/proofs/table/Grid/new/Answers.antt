use mathlib.Core.Path.{fun_ext}
use Rattle.nio_audit.specs.TableWords.{grid}
use Rattle.nio_audit.proofs.table.Grid.new.Goals as goal

pub returns : goal.returns
unfolding grid
returns g c = fun_ext (λ m. fun_ext (λ n. c.new.ensures (m, n)))
