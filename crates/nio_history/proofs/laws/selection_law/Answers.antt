use Rattle.nio_history.proofs.Selections.{selects_alone, key_set_stays, marks_stay, wakeup_stays}
use Rattle.nio_history.proofs.laws.selection_law.Goals as goal

pub returns-clause-alone : goal.returns-clause-alone
returns-clause-alone c = selects_alone

pub returns-clause-key_set : goal.returns-clause-key_set
returns-clause-key_set c = key_set_stays

pub returns-clause-marks : goal.returns-clause-marks
returns-clause-marks c = marks_stay

pub returns-clause-wakeup : goal.returns-clause-wakeup
returns-clause-wakeup c = wakeup_stays
