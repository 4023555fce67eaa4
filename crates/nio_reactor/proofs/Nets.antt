-- The members of the nets that the callers of the shared table work on.
use Rattle.nio_link.specs.Nets.{Members}
use Rattle.nio_link.specs.declared.net.Net as net
use Rattle.nio_poller.specs.declared.poller.Poller as poller

-- those of its polls, and those of its other calls
abbrev pub members : {N : Type 0} → poller.Ghosts N → net.Ghosts N → Members N
members p n = record {
  poll_faults = p.poll_faults;
  ready = p.ready;
  polls = p.polls;
  kept = p.kept;
  link = n.link;
  faults = n.faults;
  place = n.place;
  accepted = n.accepted;
}
