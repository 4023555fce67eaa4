use Rattle.nio_steps.proofs.PinLaws.{pins_are_given_back}
use Rattle.nio_steps.proofs.laws.given_back_law.Goals as goal

pub returns : goal.returns
returns c = pins_are_given_back
