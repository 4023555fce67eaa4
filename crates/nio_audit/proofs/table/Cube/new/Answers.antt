use mathlib.Core.Path.{fun_ext}
use Rattle.nio_audit.specs.TableWords.{cube}
use Rattle.nio_audit.proofs.table.Cube.new.Goals as goal

pub returns : goal.returns
unfolding cube
returns g c = fun_ext (λ m. fun_ext (λ n. fun_ext (λ o. c.new.ensures (m, n, o))))
