use Rattle.nio_steps.proofs.GoneLaws.{cancelled_keys_go}
use Rattle.nio_steps.proofs.LookedLaws.{looks_at_valid_keys}
use Rattle.nio_steps.proofs.OrderLaws.{looks_in_order}
use Rattle.nio_steps.proofs.SelectionLaws.{begins_selection}
use Rattle.nio_steps.proofs.ValidLooked.{valid_keys_are_looked_at}
use Rattle.nio_steps.proofs.laws.begin_law.Goals as goal

pub returns : goal.returns
returns c =
    record {
      begins = begins_selection;
      in_order = looks_in_order;
      valid = looks_at_valid_keys;
      looked = valid_keys_are_looked_at;
      cancelled = cancelled_keys_go;
    }
