use Rattle.std.proofs.Common.{refl, ◌∙◌, arith}
use Rattle.nio_serve.proofs.Watching.{board_none, board_then}
use Rattle.nio_reactor.proofs.Asked.{accepts_none, accepts_then, fault_then}
use Rattle.nio_reactor.proofs.Dealing.{deals_none, deals_then}
use Rattle.nio_reactor.proofs.accepting.deal_all.Goals as goal

pub loop-init : goal.loop-init
loop-init g c = record {
  listens = refl;
  accepting = c.requires.accepting;
  within = c.requires.few;
  accepted = accepts_none _
      c.args.number.now c.args.net.now c.args.net.now (λ k. refl) refl (omega arith) (omega arith);
  dealt = deals_none c.args.number.now c.args.lines.now;
  board = board_none c.args.board.now;
}

pub loop-preserved : goal.loop-preserved
loop-preserved g c = record {
  listens = c.round.ensures.listens ∙ c.loop.invariant.listens;
  accepting = c.round.ensures.accepting;
  within = c.round.ensures.within;
  accepted = accepts_then _ _ _ _ _ _ _ c.loop.invariant.accepted c.round.ensures.accepted;
  dealt = deals_then _ _ _ _ _ _ c.loop.invariant.dealt c.round.ensures.dealt;
  board = board_then c.loop.invariant.board c.round.ensures.board;
}

pub returns-in-Err-clause-accepted : goal.returns-in-Err-clause-accepted
returns-in-Err-clause-accepted g c =
    accepts_then _ _ _ _ _ _ _ c.loop.invariant.accepted c.round.ensures.accepted

pub returns-in-Err-clause-dealt : goal.returns-in-Err-clause-dealt
returns-in-Err-clause-dealt g c = deals_then _ _ _ _ _ _ c.loop.invariant.dealt c.round.ensures.dealt

pub returns-in-Err-clause-listens : goal.returns-in-Err-clause-listens
returns-in-Err-clause-listens g c = c.round.ensures.listens ∙ c.loop.invariant.listens

pub returns-in-Err-clause-cause : goal.returns-in-Err-clause-cause
returns-in-Err-clause-cause g c failed =
    fault_then _ c.args.number.now c.loop.number c.args.net.now c.loop.net c.round.new.net
    c.loop.invariant.accepted (c.in-Err.ensures.cause failed)

pub returns-in-Err-clause-board : goal.returns-in-Err-clause-board
returns-in-Err-clause-board g c =
    board_then c.loop.invariant.board c.round.ensures.board
