use Rattle.nio_history.proofs.TurnLaws.{one_selection_at_a_time, only_who_may_selects, takers_have_list}
use Rattle.nio_history.proofs.laws.one_selection_law.Goals as goal

pub returns-clause-at_a_time : goal.returns-clause-at_a_time
returns-clause-at_a_time c = one_selection_at_a_time

pub returns-clause-allowed : goal.returns-clause-allowed
returns-clause-allowed c = only_who_may_selects

pub returns-clause-takers : goal.returns-clause-takers
returns-clause-takers c = takers_have_list
