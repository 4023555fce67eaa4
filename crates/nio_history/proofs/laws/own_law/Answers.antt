use Rattle.nio_history.proofs.Stays.{only_itself_gives_back}
use Rattle.nio_history.proofs.laws.own_law.Goals as goal

pub returns : goal.returns
returns c = only_itself_gives_back
