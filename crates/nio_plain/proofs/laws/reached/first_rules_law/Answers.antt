use Rattle.nio_plain.proofs.ReachedGroups.{first_rules_reopen_none_of_the_group}
use Rattle.nio_plain.proofs.ReachedLaws.{first_rules_free_none, first_rules_remove_below_the_bound}
use Rattle.nio_plain.proofs.ReachedReopening.{first_rules_reopen_none}
use Rattle.nio_plain.proofs.laws.reached.first_rules_law.Goals as goal

pub returns-clause-free : goal.returns-clause-free
returns-clause-free c = first_rules_free_none

pub returns-clause-reopen : goal.returns-clause-reopen
returns-clause-reopen c = first_rules_reopen_none

pub returns-clause-group : goal.returns-clause-group
returns-clause-group c = first_rules_reopen_none_of_the_group

pub returns-clause-removed : goal.returns-clause-removed
returns-clause-removed c = first_rules_remove_below_the_bound
