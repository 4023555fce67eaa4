use Rattle.nio_channel.proofs.Idle.{idle_made}
use Rattle.nio_bench.proofs.pair.make_selector.Goals as goal

pub returns : goal.returns
returns c = idle_made c.make_selector.ensures c.requires.zero c.requires.one c.requires.seen c.requires.selector
