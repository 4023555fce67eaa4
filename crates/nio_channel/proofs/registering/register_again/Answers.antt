use Rattle.std.proofs.Common.{refl}
use Rattle.nio_steps.proofs.CallLaws.{returned, left_ask, left_of_call}
use Rattle.nio_words.proofs.Views.{step_acts}
use Rattle.nio_channel.proofs.Claimed.{claimed_stays}
use Rattle.nio_channel.proofs.Held.{may_enrol_stays}
use Rattle.nio_channel.proofs.registering.register_again.Goals as goal

pub make_claimed-requires-clause-may : goal.make_claimed-requires-clause-may
make_claimed-requires-clause-may c = may_enrol_stays c.clear_mark.ensures refl refl c.requires.may

pub make_claimed-requires-clause-claimed : goal.make_claimed-requires-clause-claimed
make_claimed-requires-clause-claimed c = claimed_stays c.clear_mark.ensures refl refl refl c.requires.claimed

pub returns-clause-call : goal.returns-clause-call
returns-clause-call c =
    returned (left_ask _ (step_acts c.clear_mark.ensures refl) (left_of_call c.make_claimed.ensures.call))
