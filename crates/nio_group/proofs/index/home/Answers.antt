use Rattle.std.proofs.Common.{refl}
use Rattle.nio_group.specs.Index.{home_of}
use Rattle.nio_group.proofs.index.home.Goals as goal

pub returns-clause-place : goal.returns-clause-place
unfolding home_of
returns-clause-place c = refl
