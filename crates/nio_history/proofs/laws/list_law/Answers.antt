use Rattle.nio_history.proofs.RightLists.{lists_are_right}
use Rattle.nio_history.proofs.TouchedSince.{touched_since}
use Rattle.nio_history.proofs.laws.list_law.Goals as goal

pub returns : goal.returns
returns c =
    record {
      right = lists_are_right;
      touched = touched_since;
    }
