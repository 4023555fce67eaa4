use Rattle.nio_plain.proofs.ReachedGroups.{group_is_left_by_a_run, group_is_lawful}
use Rattle.nio_plain.proofs.laws.reached.group_law.Goals as goal

pub returns-clause-run : goal.returns-clause-run
returns-clause-run c = group_is_left_by_a_run

pub returns-clause-lawful : goal.returns-clause-lawful
returns-clause-lawful c = group_is_lawful
