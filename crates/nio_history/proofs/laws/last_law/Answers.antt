use Rattle.nio_history.proofs.Spans.{last_is_said}
use Rattle.nio_history.proofs.laws.last_law.Goals as goal

pub returns : goal.returns
returns g c = last_is_said
