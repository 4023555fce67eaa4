use Rattle.nio_history.proofs.OwnChanges.{changes_are_own, lists_are_own}
use Rattle.nio_history.proofs.OwnPins.{pins_are_own}
use Rattle.nio_history.proofs.OwnTaken.{taken_is_own}
use Rattle.nio_history.proofs.laws.own_pins_law.Goals as goal

pub returns-clause-pins : goal.returns-clause-pins
returns-clause-pins c = pins_are_own

pub returns-clause-taken : goal.returns-clause-taken
returns-clause-taken c = taken_is_own

pub returns-clause-changes : goal.returns-clause-changes
returns-clause-changes c = changes_are_own

pub returns-clause-lists : goal.returns-clause-lists
returns-clause-lists c = lists_are_own
