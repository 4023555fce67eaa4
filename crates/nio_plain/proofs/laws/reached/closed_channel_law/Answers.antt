use Rattle.nio_plain.proofs.ReachedLaws.{closed_channel_has_no_valid_key}
use Rattle.nio_plain.proofs.laws.reached.closed_channel_law.Goals as goal

pub returns : goal.returns
returns c = closed_channel_has_no_valid_key
