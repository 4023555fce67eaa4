use Rattle.std.proofs.Common.{◌≡◌}
use Rattle.nio_poller.specs.Polls.{told_of_channel}
use Rattle.nio_select.specs.Asked.{keys_to}
use Rattle.nio_datagram.proofs.watching.told_of.Given as goal

abbrev pub invariant-loop-index : goal.invariant-loop-index
invariant-loop-index l = l.ops ≡ told_of_channel (keys_to l.index l.asked.keys) l.told.pairs.items l.chan
