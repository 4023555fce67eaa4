use Rattle.std.proofs.Common.{refl}
use Rattle.nio_table_tests.proofs.words.history.registering_again.Goals as goal

pub returns : goal.returns
returns c = rw c.union-operations.ensures refl
