use Rattle.nio_sole.proofs.Calls.{lines_are_calls}
use Rattle.nio_sole.proofs.Progress.{ongoing_is_begun, ongoing_is_closing}
use Rattle.nio_sole.proofs.laws.sole_law.Goals as goal

pub returns : goal.returns
returns c = record { lines = lines_are_calls; begun = ongoing_is_begun; closing = ongoing_is_closing }
