use Rattle.nio_relay.proofs.ConnectionLemmas.{connection}
use Rattle.nio_relay.proofs.law.connection_law.Goals as goal

pub returns : goal.returns
returns c = connection
