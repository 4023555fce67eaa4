use Rattle.nio_table_tests.proofs.Callers.{may_stay, may_go, both_have}
use Rattle.nio_table_tests.proofs.tables.hand_over.Goals as goal

pub returns-clause-first : goal.returns-clause-first
returns-clause-first c = may_stay c.in_ok-hand_over.ensures c.requires

pub returns-clause-second : goal.returns-clause-second
returns-clause-second c = may_go c.in_ok-hand_over.ensures c.requires

pub returns-clause-channels : goal.returns-clause-channels
returns-clause-channels c = both_have c.in_ok-hand_over.ensures
