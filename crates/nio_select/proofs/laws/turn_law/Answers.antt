use Rattle.nio_select.proofs.GivenBack.{leaving_gives_back, no_memory_gives_back}
use Rattle.nio_select.proofs.laws.turn_law.Goals as goal

pub returns-clause-leave : goal.returns-clause-leave
returns-clause-leave c = leaving_gives_back

pub returns-clause-no_memory : goal.returns-clause-no_memory
returns-clause-no_memory c = no_memory_gives_back
