-- A net of packets over sockets that was just made.
use Rattle.std.specs.Prelude.{◌≡◌, []}
use Rattle.nio_base.specs.declared.numbers.ChanId.{ChanId}
use Rattle.nio_base.specs.declared.numbers.ChanNo.{ChanNo}
use Rattle.nio_kept.specs.Counts.{count_of}
use Rattle.nio_kept.specs.Readiness.{polls_of, ready_of}
use Rattle.nio_mio_packets.specs.declared.net.MioPackets.{MioPackets}

-- no poll has failed, and no call on a channel
pub record IsFaultless {S : Type 0} (net : MioPackets S) : Type 0 where
  pub polls : net.poll_faults ≡ 0
  pub calls : (c : ChanId) → count_of net.counts c ≡ 0

-- no poll has answered, and no channel is ready for anything
pub record IsUnpolled {S : Type 0} (net : MioPackets S) : Type 0 where
  pub polls : polls_of net.readiness ≡ []
  pub unready : (c : ChanNo) → ready_of net.readiness c ≡ 0
