use Rattle.std.proofs.Common.{refl}
use Rattle.nio_steps.proofs.CallLaws.{returned, left_ask, left_then, left_else, left_after, left_of_call}
use Rattle.nio_words.proofs.Pins.{stays_pinned}
use Rattle.nio_words.proofs.Views.{step_acts, touched_amid}
use Rattle.nio_channel.proofs.Claimed.{claimed_stays}
use Rattle.nio_channel.proofs.Held.{hold_stays, may_enrol_stays}
use Rattle.nio_channel.proofs.Registered.{enrolled_unblocked, enrolled_known, may_publish_claimed, amid_enrolled}
use Rattle.nio_channel.proofs.Registered.{has_published}
use Rattle.nio_channel.proofs.registering.publish_key.Goals as goal

pub swap_interest-requires-clause-pinned : goal.swap_interest-requires-clause-pinned
swap_interest-requires-clause-pinned c =
    (stays_pinned c.touch.ensures refl refl c.requires.claimed.pinned).only.here

pub swap_interest-requires-clause-touched : goal.swap_interest-requires-clause-touched
swap_interest-requires-clause-touched c =
    touched_amid (step_acts c.touch.ensures refl)
    (stays_pinned c.touch.ensures refl refl c.requires.claimed.pinned).only.here

pub swap_note-requires-clause-pinned : goal.swap_note-requires-clause-pinned
swap_note-requires-clause-pinned c =
    (stays_pinned c.swap_interest.ensures refl refl
    (stays_pinned c.touch.ensures refl refl c.requires.claimed.pinned)).only.here

pub enrol-requires-clause-holds : goal.enrol-requires-clause-holds
enrol-requires-clause-holds c =
    (may_enrol_stays c.swap_note.ensures refl refl
    (may_enrol_stays c.swap_interest.ensures refl refl
    (may_enrol_stays c.touch.ensures refl refl c.requires.may))).unblocked.held.holding

pub enrol-requires-clause-clear : goal.enrol-requires-clause-clear
enrol-requires-clause-clear c =
    (may_enrol_stays c.swap_note.ensures refl refl
    (may_enrol_stays c.swap_interest.ensures refl refl
    (may_enrol_stays c.touch.ensures refl refl c.requires.may))).clear

pub publish-before-requires-clause-may : goal.publish-before-requires-clause-may
publish-before-requires-clause-may c =
    may_publish_claimed
    (enrolled_unblocked c.enrol.ensures
    (may_enrol_stays c.swap_note.ensures refl refl
    (may_enrol_stays c.swap_interest.ensures refl refl
    (may_enrol_stays c.touch.ensures refl refl c.requires.may))).unblocked)
    (claimed_stays c.enrol.ensures refl refl refl
    (claimed_stays c.swap_note.ensures refl refl refl
    (claimed_stays c.swap_interest.ensures refl refl refl
    (claimed_stays c.touch.ensures refl refl refl c.requires.claimed))))

pub publish-before-requires-clause-touched : goal.publish-before-requires-clause-touched
publish-before-requires-clause-touched c =
    amid_enrolled c.touch.ensures c.swap_interest.ensures c.swap_note.ensures c.enrol.ensures
    (stays_pinned c.touch.ensures refl refl c.requires.claimed.pinned)

pub returns-then-before-clause-call : goal.returns-then-before-clause-call
returns-then-before-clause-call c =
    returned (left_ask _ (step_acts c.touch.ensures refl) (left_ask _ (step_acts c.swap_interest.ensures refl)
    (left_ask _ (step_acts c.swap_note.ensures refl)
    (left_ask _ (step_acts c.enrol.ensures refl) (left_ask _ (step_acts c.publish-before.ensures refl)
    (left_then _ _ _ c.if-before.true (left_after (step_acts c.publish-before.ensures refl))))))))

pub returns-then-before-clause-held : goal.returns-then-before-clause-held
returns-then-before-clause-held c =
    hold_stays c.publish-before.ensures refl refl
    (enrolled_unblocked c.enrol.ensures
    (may_enrol_stays c.swap_note.ensures refl refl
    (may_enrol_stays c.swap_interest.ensures refl refl
    (may_enrol_stays c.touch.ensures refl refl c.requires.may))).unblocked).held

pub returns-then-before-clause-pinned : goal.returns-then-before-clause-pinned
returns-then-before-clause-pinned c =
    stays_pinned c.publish-before.ensures refl refl
    (claimed_stays c.enrol.ensures refl refl refl
    (claimed_stays c.swap_note.ensures refl refl refl
    (claimed_stays c.swap_interest.ensures refl refl refl
    (claimed_stays c.touch.ensures refl refl refl c.requires.claimed)))).pinned

pub settle_key-requires : goal.settle_key-requires
settle_key-requires c =
    has_published c.publish-before.ensures
    (enrolled_unblocked c.enrol.ensures
    (may_enrol_stays c.swap_note.ensures refl refl
    (may_enrol_stays c.swap_interest.ensures refl refl
    (may_enrol_stays c.touch.ensures refl refl c.requires.may))).unblocked)
    (enrolled_known c.enrol.ensures)
    (claimed_stays c.enrol.ensures refl refl refl
    (claimed_stays c.swap_note.ensures refl refl refl
    (claimed_stays c.swap_interest.ensures refl refl refl
    (claimed_stays c.touch.ensures refl refl refl c.requires.claimed))))
    (amid_enrolled c.touch.ensures c.swap_interest.ensures c.swap_note.ensures c.enrol.ensures
    (stays_pinned c.touch.ensures refl refl c.requires.claimed.pinned))

pub returns-clause-call : goal.returns-clause-call
returns-clause-call c =
    returned (left_ask _ (step_acts c.touch.ensures refl) (left_ask _ (step_acts c.swap_interest.ensures refl)
    (left_ask _ (step_acts c.swap_note.ensures refl)
    (left_ask _ (step_acts c.enrol.ensures refl) (left_ask _ (step_acts c.publish-before.ensures refl)
    (left_else _ _ _ c.if-before.false (left_of_call c.settle_key.ensures.call)))))))
