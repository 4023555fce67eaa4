use Rattle.nio_future.proofs.LawLemmas.{tickets-right}
use Rattle.nio_future.proofs.laws.ticket_law.Goals as goal

pub returns : goal.returns
returns c = tickets-right
