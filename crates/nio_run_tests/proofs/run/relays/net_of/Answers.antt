use Rattle.nio_run_tests.proofs.Fresh.{fresh_net}
use Rattle.nio_run_tests.proofs.run.relays.net_of.Goals as goal

pub returns : goal.returns
returns c = fresh_net c.make.result c.make.ensures.fresh c.make.ensures.unasked
