use Rattle.nio_relay.proofs.CallsLemmas.{relay}
use Rattle.nio_relay.proofs.law.relay_law.Goals as goal

pub returns : goal.returns
returns c = relay
