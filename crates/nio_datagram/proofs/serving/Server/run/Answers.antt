use Rattle.std.proofs.Common.{◌∙◌, refl, sym}
use Rattle.nio_datagram.proofs.Counting.{where_done}
use Rattle.nio_datagram.proofs.PassLaws.{none_failed, none_failed_then}
use Rattle.nio_datagram.proofs.ServeLaws.{moves_none, moves_then, one_rose_from}
use Rattle.nio_datagram.proofs.serving.Server.run.Goals as goal

pub returns-then-is_err-clause-moves : goal.returns-then-is_err-clause-moves
returns-then-is_err-clause-moves g c = moves_then _ _ _ c.loop.invariant.moves c.select-ended.ensures.moves

pub returns-then-is_err-clause-cause : goal.returns-then-is_err-clause-cause
returns-then-is_err-clause-cause g c failed =
    one_rose_from (g.N.PacketNet.packet_faults c.args.net.now) (g.N.PacketNet.packet_faults c.loop.net)
    (g.N.PacketNet.packet_faults c.select-ended.new.net) (g.N.Poller.poll_faults c.args.net.now)
    (g.N.Poller.poll_faults c.loop.net) (g.N.Poller.poll_faults c.select-ended.new.net) c.loop.invariant.moves.later c.loop.invariant.moves.polls
    (c.select-ended.ensures.cause failed)

pub loop-init : goal.loop-init
loop-init g c = record {
  relaying = c.requires.relaying;
  target = refl;
  moves = moves_none _;
  still = none_failed _ _;
  count = c.requires.count;
}

pub loop-preserved : goal.loop-preserved
loop-preserved g c = record {
  relaying = c.select-ended.ensures.relaying;
  target = c.select-ended.ensures.target ∙ c.loop.invariant.target;
  moves = moves_then _ _ _ c.loop.invariant.moves c.select-ended.ensures.moves;
  still = none_failed_then _ _ _ _ _ _ c.loop.invariant.still
      (where_done c.select-ended.result (sym c.is_err.ensures.value ∙ c.if-is_err.false) c.select-ended.ensures.still);
  count = c.select-ended.ensures.count;
}
