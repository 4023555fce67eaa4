use Rattle.nio_audit.specs.DueIndexes.{due_of}
use Rattle.nio_audit.proofs.dues.Dues.has.Goals as goal

pub returns : goal.returns
unfolding due_of
returns c = cc
