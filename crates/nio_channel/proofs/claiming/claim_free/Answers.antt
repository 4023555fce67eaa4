use Rattle.std.proofs.Common.{refl}
use Rattle.nio_steps.proofs.CallLaws.{returned, left_ask, left_of_call}
use Rattle.nio_words.proofs.Pins.{no_pin_stays}
use Rattle.nio_words.proofs.Views.{step_acts}
use Rattle.nio_channel.proofs.Claimed.{taken_now}
use Rattle.nio_channel.proofs.Held.{may_enrol_stays}
use Rattle.nio_channel.proofs.claiming.claim_free.Goals as goal

pub claim_taken-requires-clause-may : goal.claim_taken-requires-clause-may
claim_taken-requires-clause-may c = may_enrol_stays c.take_free.ensures refl refl c.requires.may

pub claim_taken-requires-clause-taken : goal.claim_taken-requires-clause-taken
claim_taken-requires-clause-taken c = taken_now (step_acts c.if-take_free.ensures refl)

pub claim_taken-requires-clause-unpinned : goal.claim_taken-requires-clause-unpinned
claim_taken-requires-clause-unpinned c = no_pin_stays (step_acts c.take_free.ensures refl) refl c.requires.unpinned

pub returns-then-take_free-clause-call : goal.returns-then-take_free-clause-call
returns-then-take_free-clause-call c =
    returned (left_ask _ (step_acts c.if-take_free.ensures refl) (left_of_call c.claim_taken.ensures.call))

pub returns-else-take_free-clause-may : goal.returns-else-take_free-clause-may
returns-else-take_free-clause-may c = may_enrol_stays c.take_free.ensures refl refl c.requires.may

pub returns-else-take_free-clause-unpinned : goal.returns-else-take_free-clause-unpinned
returns-else-take_free-clause-unpinned c =
    λ _. no_pin_stays (step_acts c.take_free.ensures refl) refl c.requires.unpinned
