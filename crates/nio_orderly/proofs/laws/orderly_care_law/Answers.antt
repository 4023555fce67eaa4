use Rattle.nio_orderly.proofs.OrderlyCare.{orderly_is_careful, whole_is_settled}
use Rattle.nio_orderly.proofs.OrderlyClosings.{orderly_owes, whole_loses_no_key}
use Rattle.nio_orderly.proofs.laws.orderly_care_law.Goals as goal

pub returns : goal.returns
returns c = record {
  careful = orderly_is_careful;
  settled = whole_is_settled;
  owed = orderly_owes;
  none_lost = whole_loses_no_key;
}
