use Rattle.nio_words.proofs.GoingOn.{channel_stands, mode_stands, enrolled_stands, found_enrolled_stands}
use Rattle.nio_words.proofs.GoingOn.{outside_stands, found_clear_stands}
use Rattle.nio_words.proofs.laws.hold_law.Goals as goal

pub returns-clause-channel : goal.returns-clause-channel
returns-clause-channel c = channel_stands

pub returns-clause-mode : goal.returns-clause-mode
returns-clause-mode c = mode_stands

pub returns-clause-enrolled : goal.returns-clause-enrolled
returns-clause-enrolled c = enrolled_stands

pub returns-clause-found_enrolled : goal.returns-clause-found_enrolled
returns-clause-found_enrolled c = found_enrolled_stands

pub returns-clause-outside : goal.returns-clause-outside
returns-clause-outside c = outside_stands

pub returns-clause-found_clear : goal.returns-clause-found_clear
returns-clause-found_clear c = found_clear_stands
