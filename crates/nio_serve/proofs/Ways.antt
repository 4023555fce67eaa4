-- The members of the nets that a way of the proxy makes calls on.
use Rattle.nio_board.specs.declared.polls.Polls as polls
use Rattle.nio_link.specs.Nets.{Members}
use Rattle.nio_serve.specs.declared.way.Way as way

-- those of its polls, and those of its other calls
abbrev pub members : {W N : Type 0} → polls.Ghosts W N → way.Ghosts W N → Members N
members p w = record {
  poll_faults = p.poll_faults;
  ready = p.ready;
  polls = p.polls;
  kept = p.kept;
  link = w.link;
  faults = w.faults;
  place = w.place;
  accepted = w.accepted;
}
