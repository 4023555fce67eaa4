use Rattle.nio_language.proofs.OneReading.{calls_one}
use Rattle.nio_script.proofs.OneHistory.{entries_of_now, entries_one}
use Rattle.nio_script.proofs.laws.one_reading_law.Goals as goal

pub returns-clause-script : goal.returns-clause-script
returns-clause-script c = λ text calls others. calls_one

pub returns-clause-history : goal.returns-clause-history
returns-clause-history c = λ rules text entries others. entries_one

pub returns-clause-first : goal.returns-clause-first
returns-clause-first c = λ text entries. entries_of_now
