use Rattle.nio_timed.proofs.OneTimed.{timed_lines_one}
use Rattle.nio_timed.proofs.laws.one_timed_reading_law.Goals as goal

pub returns : goal.returns
returns c = λ text calls others. timed_lines_one
