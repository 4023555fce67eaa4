use Rattle.std.proofs.Common.{refl}
use Rattle.nio_table_tests.proofs.words.history.changing_interest.Goals as goal

pub returns : goal.returns
returns c = rw c.union-operations.ensures refl
