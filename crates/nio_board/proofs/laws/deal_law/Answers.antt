use Rattle.nio_board.proofs.Dealt.{comes_back}
use Rattle.nio_board.proofs.laws.deal_law.Goals as goal

pub returns : goal.returns
returns c = record { back = comes_back }
