use Rattle.nio_bench.proofs.SetUp.{idle_made}
use Rattle.nio_bench.proofs.channels.set_up.Goals as goal

pub returns : goal.returns
returns c = idle_made c.make_selector.ensures c.requires.ready c.requires.seen c.requires.selector
