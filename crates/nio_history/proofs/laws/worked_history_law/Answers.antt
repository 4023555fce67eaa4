use Rattle.nio_history.proofs.WorkedSteps.{worked_history_is_legal, refused_events_are_no_steps}
use Rattle.nio_history.proofs.laws.worked_history_law.Goals as goal

pub returns-clause-legal : goal.returns-clause-legal
returns-clause-legal c = worked_history_is_legal

pub returns-clause-refused : goal.returns-clause-refused
returns-clause-refused c = refused_events_are_no_steps
