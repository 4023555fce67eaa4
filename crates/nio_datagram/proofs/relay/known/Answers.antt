use Rattle.nio_poller.proofs.Marks.{within_trans}
use Rattle.nio_datagram.proofs.relay.known.Goals as goal

pub returns-clause-read : goal.returns-clause-read
returns-clause-read c ready told is = within_trans 1 c.args.source ready (c.within.ensures.0 is) told

pub returns-clause-write : goal.returns-clause-write
returns-clause-write c ready told is = within_trans 4 c.args.sink ready (c.within-2.ensures.0 is) told
