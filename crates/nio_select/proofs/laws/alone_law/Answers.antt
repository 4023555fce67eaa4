use Rattle.nio_select.proofs.Alone.{selections_are_alone}
use Rattle.nio_select.proofs.laws.alone_law.Goals as goal

pub returns : goal.returns
returns c = selections_are_alone
