use Rattle.std.proofs.Common.{refl}
use Rattle.nio_words.proofs.Views.{step_acts}
use Rattle.nio_select.proofs.Begun.{begun_stays}
use Rattle.nio_select.proofs.KeyChanges.{mark_changed, step_changed}
use Rattle.nio_select.proofs.telling.mark_again.Goals as goal

pub returns-in-Ok-clause-begun : goal.returns-in-Ok-clause-begun
returns-in-Ok-clause-begun c = begun_stays c.in-Ok.ensures refl refl c.requires.begun

pub returns-in-Ok-clause-marked : goal.returns-in-Ok-clause-marked
returns-in-Ok-clause-marked c = λ asked. mark_changed asked (step_acts c.in-Ok.ensures refl) c.ready_with-ready.ensures

pub returns-in-Err-clause-begun : goal.returns-in-Err-clause-begun
returns-in-Err-clause-begun c = begun_stays c.in-Err.ensures refl refl c.requires.begun

pub returns-in-Err-clause-marked : goal.returns-in-Err-clause-marked
returns-in-Err-clause-marked c = λ asked. step_changed asked (step_acts c.in-Err.ensures refl)
