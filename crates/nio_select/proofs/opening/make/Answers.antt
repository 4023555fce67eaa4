use Rattle.std.proofs.Common.{refl}
use Rattle.nio_words.proofs.Views.{step_acts}
use Rattle.nio_select.proofs.Made.{made_now}
use Rattle.nio_select.proofs.opening.make.Goals as goal

pub returns-else-make_selector-clause-made : goal.returns-else-make_selector-clause-made
returns-else-make_selector-clause-made c =
    record { inside = c.requires.inside; made = made_now (step_acts c.make_selector.ensures refl) }
