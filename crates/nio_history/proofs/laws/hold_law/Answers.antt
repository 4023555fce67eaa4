use Rattle.nio_history.proofs.Holds.{channel_stays, mode_stays, enrolled_stays, found_enrolled_stays, outside_stays}
use Rattle.nio_history.proofs.Holds.{found_clear_stays, clear_is_true}
use Rattle.nio_history.proofs.laws.hold_law.Goals as goal

pub returns-clause-channel : goal.returns-clause-channel
returns-clause-channel c = channel_stays

pub returns-clause-mode : goal.returns-clause-mode
returns-clause-mode c = mode_stays

pub returns-clause-enrolled : goal.returns-clause-enrolled
returns-clause-enrolled c = enrolled_stays

pub returns-clause-found_enrolled : goal.returns-clause-found_enrolled
returns-clause-found_enrolled c = found_enrolled_stays

pub returns-clause-outside : goal.returns-clause-outside
returns-clause-outside c = outside_stays

pub returns-clause-found_clear : goal.returns-clause-found_clear
returns-clause-found_clear c = found_clear_stays

pub returns-clause-clear : goal.returns-clause-clear
returns-clause-clear c = clear_is_true
