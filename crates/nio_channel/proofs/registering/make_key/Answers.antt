use Rattle.std.proofs.Common.{refl}
use Rattle.nio_steps.proofs.CallLaws.{returned, left_ask, left_else, left_of_call}
use Rattle.nio_words.proofs.Pins.{stays_pinned}
use Rattle.nio_words.proofs.Views.{step_acts}
use Rattle.nio_channel.proofs.Claimed.{claimed_stays}
use Rattle.nio_channel.proofs.Held.{hold_stays, may_enrol_stays}
use Rattle.nio_channel.proofs.registering.make_key.Goals as goal

pub returns-then-look_gate-clause-held : goal.returns-then-look_gate-clause-held
returns-then-look_gate-clause-held c = hold_stays c.look_gate.ensures refl refl c.requires.may.unblocked.held

pub returns-then-look_gate-clause-pinned : goal.returns-then-look_gate-clause-pinned
returns-then-look_gate-clause-pinned c = stays_pinned c.look_gate.ensures refl refl c.requires.claimed.pinned

pub publish_key-requires-clause-may : goal.publish_key-requires-clause-may
publish_key-requires-clause-may c = may_enrol_stays c.look_gate.ensures refl refl c.requires.may

pub publish_key-requires-clause-claimed : goal.publish_key-requires-clause-claimed
publish_key-requires-clause-claimed c = claimed_stays c.look_gate.ensures refl refl refl c.requires.claimed

pub returns-clause-call : goal.returns-clause-call
returns-clause-call c =
    returned (left_ask _ (step_acts c.look_gate.ensures refl)
    (left_else _ _ _ c.if-look_gate.false (left_of_call c.publish_key.ensures.call)))
