use Rattle.nio_race_text.proofs.RaceTexts.{first_bad_race_one, race_not_bad, race_text_one}
use Rattle.nio_race_text.proofs.laws.one_race_law.Goals as goal

pub returns-clause-calls : goal.returns-clause-calls
returns-clause-calls c = λ text setup calls race others. race_text_one

pub returns-clause-bad : goal.returns-clause-bad
returns-clause-bad c = first_bad_race_one

pub returns-clause-apart : goal.returns-clause-apart
returns-clause-apart c = race_not_bad
