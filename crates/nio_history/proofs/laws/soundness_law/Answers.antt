use Rattle.nio_history.proofs.Soundness.{legal-sound}
use Rattle.nio_history.proofs.Within.{legal-within}
use Rattle.nio_history.proofs.laws.soundness_law.Goals as goal

pub returns-clause-sound : goal.returns-clause-sound
returns-clause-sound c = legal-sound

pub returns-clause-within : goal.returns-clause-within
returns-clause-within c = legal-within
