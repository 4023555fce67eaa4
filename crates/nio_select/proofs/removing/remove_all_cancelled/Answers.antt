use Rattle.std.proofs.Common.{refl}
use Rattle.nio_channel.proofs.Claimed.{mark_inside}
use Rattle.nio_steps.proofs.CallLaws.{returned, left_ask, left_of_call}
use Rattle.nio_words.proofs.Views.{step_acts}
use Rattle.nio_select.proofs.Begun.{begun_stays}
use Rattle.nio_select.proofs.KeyChanges.{takes_after}
use Rattle.nio_select.proofs.removing.remove_all_cancelled.Goals as goal

pub remove_below-requires-clause-begun : goal.remove_below-requires-clause-begun
remove_below-requires-clause-begun g c = begun_stays c.look_keys-mark.ensures refl refl c.requires.begun

pub remove_below-requires-clause-mark : goal.remove_below-requires-clause-mark
remove_below-requires-clause-mark g c = mark_inside (step_acts c.look_keys-mark.ensures refl)

pub returns-clause-call : goal.returns-clause-call
returns-clause-call g c =
    returned (left_ask _ (step_acts c.look_keys-mark.ensures refl) (left_of_call c.remove_below.ensures.call))

pub returns-clause-listed : goal.returns-clause-listed
returns-clause-listed g c = λ asked.
    takes_after asked (step_acts c.look_keys-mark.ensures refl) refl c.remove_below.ensures.call.acts
    (c.remove_below.ensures.listed asked)
