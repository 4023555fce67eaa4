use Rattle.std.proofs.Common.{arith}
use Rattle.nio_group.proofs.IndexLemmas.{key_in-replicate}
use Rattle.nio_group.proofs.index.Index.make.Goals as goal

pub returns-clause-empty : goal.returns-clause-empty
returns-clause-empty c = λ n. grind (arith, key_in-replicate)
