use Rattle.nio_plain.proofs.CallLawsSelections.{end_leaves_none_cancelled, looked_is_replied}
use Rattle.nio_plain.proofs.CallLawsSelections.{only_itself_ends_a_selection}
use Rattle.nio_plain.proofs.laws.calls.selections_law.Goals as goal

pub returns-clause-begun : goal.returns-clause-begun
returns-clause-begun c = looked_is_replied

pub returns-clause-stay : goal.returns-clause-stay
returns-clause-stay c = only_itself_ends_a_selection

pub returns-clause-ended : goal.returns-clause-ended
returns-clause-ended c = end_leaves_none_cancelled
