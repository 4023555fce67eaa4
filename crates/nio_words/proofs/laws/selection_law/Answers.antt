use Rattle.nio_words.proofs.GoingOn.{selects_alone, key_set_stands, selected_keys_stand, marks_stand, wakeup_stands}
use Rattle.nio_words.proofs.laws.selection_law.Goals as goal

pub returns-clause-alone : goal.returns-clause-alone
returns-clause-alone c = selects_alone

pub returns-clause-key_set : goal.returns-clause-key_set
returns-clause-key_set c = key_set_stands

pub returns-clause-keys : goal.returns-clause-keys
returns-clause-keys c = selected_keys_stand

pub returns-clause-marks : goal.returns-clause-marks
returns-clause-marks c = marks_stand

pub returns-clause-wakeup : goal.returns-clause-wakeup
returns-clause-wakeup c = wakeup_stands
