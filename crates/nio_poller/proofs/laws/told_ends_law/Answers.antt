use Rattle.nio_poller.proofs.WentOn.{goes_on_untold}
use Rattle.nio_poller.proofs.laws.told_ends_law.Goals as goal

pub returns : goal.returns
returns c = goes_on_untold
