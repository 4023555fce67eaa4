use Rattle.nio_steps.proofs.GoneListed.{cancelled_listed_keys_go, cancelled_listed_keys_go_at_end}
use Rattle.nio_steps.proofs.MarkedListed.{marks_listed_keys}
use Rattle.nio_steps.proofs.StoodLaws.{listed_keys_stood}
use Rattle.nio_steps.proofs.ValidListed.{valid_keys_are_listed}
use Rattle.nio_steps.proofs.laws.listed_law.Goals as goal

pub returns : goal.returns
returns c =
    record {
      stood = listed_keys_stood;
      marked = marks_listed_keys;
      looked = valid_keys_are_listed;
      cancelled = cancelled_listed_keys_go;
      at_end = cancelled_listed_keys_go_at_end;
    }
