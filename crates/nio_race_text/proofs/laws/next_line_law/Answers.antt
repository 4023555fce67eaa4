use Rattle.nio_race_text.proofs.RaceTexts.{behind_go, behind_setup}
use Rattle.nio_race_text.proofs.laws.next_line_law.Goals as goal

pub returns-clause-setup : goal.returns-clause-setup
returns-clause-setup c = behind_setup

pub returns-clause-race : goal.returns-clause-race
returns-clause-race c = behind_go
