use Rattle.nio_caller.proofs.Calls.{still_has}
use Rattle.nio_caller.proofs.laws.names_law.Goals as goal

pub returns : goal.returns
returns c = λ me old new acts clause. still_has clause
