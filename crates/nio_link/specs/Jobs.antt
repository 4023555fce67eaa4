-- For which channel of a group the operations are that are done on a channel of a net.
use Rattle.nio_base.specs.declared.numbers.ChanId.{ChanId}
use Rattle.nio_base.specs.declared.numbers.GChan.{GChan}

-- the channel of the group that has its number and its serial
abbrev pub of_net : ChanId → GChan
of_net chan = record { number = chan.number.0; serial = chan.serial }
