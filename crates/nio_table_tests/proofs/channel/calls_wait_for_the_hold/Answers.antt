use Rattle.std.proofs.Common.{rules}
use Rattle.nio_table_tests.proofs.channel.calls_wait_for_the_hold.Goals as goal

pub holds-requires-clause-channel : goal.holds-requires-clause-channel
holds-requires-clause-channel g c = (c.in_ok-q.ensures.channels c.in_ok-chan.chan c.in_ok-chan.ensures.made).1

pub waits_beside-mode-requires-clause-channel : goal.waits_beside-mode-requires-clause-channel
waits_beside-mode-requires-clause-channel g c κs =
    (c.in_ok-q.ensures.channels c.in_ok-chan.chan c.in_ok-chan.ensures.made).0

pub waits_beside-mode-requires-clause-holds : goal.waits_beside-mode-requires-clause-holds
waits_beside-mode-requires-clause-holds g c κs = c.holds.ensures (search rules)
