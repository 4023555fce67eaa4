use Rattle.nio_orderly.proofs.KnownLists.{lists_are_known}
use Rattle.nio_orderly.proofs.laws.lists_law.Goals as goal

pub returns : goal.returns
returns c = lists_are_known
