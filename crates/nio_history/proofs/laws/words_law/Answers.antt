use Rattle.nio_history.proofs.Spans.{has_is_said, span_is_said, clear_is_said}
use Rattle.nio_history.proofs.laws.words_law.Goals as goal

pub returns-clause-has : goal.returns-clause-has
returns-clause-has c = has_is_said

pub returns-clause-span : goal.returns-clause-span
returns-clause-span c = span_is_said

pub returns-clause-clear : goal.returns-clause-clear
returns-clause-clear c = clear_is_said
