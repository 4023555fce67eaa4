use Rattle.nio_history.proofs.Holder.{holder_knows_mode}
use Rattle.nio_history.proofs.TurnLaws.{turn_has_one_holder, hold_has_one_holder}
use Rattle.nio_history.proofs.laws.one_holder_law.Goals as goal

pub returns-clause-turn : goal.returns-clause-turn
returns-clause-turn c = turn_has_one_holder

pub returns-clause-hold : goal.returns-clause-hold
returns-clause-hold c = hold_has_one_holder

pub returns-clause-mode : goal.returns-clause-mode
returns-clause-mode c = holder_knows_mode
