-- What a net of packets shows, by its meanings one by one.
use Rattle.std.proofs.Common.{ℕ, Option, List}
use Rattle.nio_base.specs.declared.numbers.ChanId.{ChanId}
use Rattle.nio_base.specs.declared.numbers.ChanNo.{ChanNo}
use Rattle.nio_datagram.specs.Nets.{PacketView}
use Rattle.nio_datagram.specs.Packets.{Traffic}
use Rattle.nio_datagram.specs.declared.net.Place.{Place}
use Rattle.nio_poller.specs.Polled.{Polled}

abbrev pub view_by : {N : Type 0} → (N → ChanId → Traffic) → (N → ChanId → ℕ) → (N → ChanId → Place)
    → (N → ChanNo → ℕ) → (N → ℕ) → (N → Option (List Polled)) → N → PacketView
view_by traffic faults place ready poll_faults polls net = record {
  traffic = traffic net;
  faults = faults net;
  place = place net;
  ready = ready net;
  poll_faults = poll_faults net;
  polls = polls net;
}
