use Rattle.std.proofs.Common.{refl}
use Rattle.nio_steps.proofs.CallLaws.{returned, left_ask, left_after, ran_then}
use Rattle.nio_words.proofs.Pins.{none_unpinned}
use Rattle.nio_words.proofs.Views.{step_acts}
use Rattle.nio_channel.proofs.Chains.{each_ok}
use Rattle.nio_channel.proofs.Held.{hold_stays}
use Rattle.nio_channel.proofs.Registered.{registered_stays}
use Rattle.nio_channel.proofs.registering.make_claimed.Goals as goal

pub returns-clause-call : goal.returns-clause-call
returns-clause-call c =
    returned (ran_then _ c.make_key-answer.ensures.call
    (left_ask _ (step_acts c.unpin.ensures refl) (left_after (step_acts c.unpin.ensures refl))))

pub returns-clause-held : goal.returns-clause-held
returns-clause-held c = hold_stays c.unpin.ensures refl refl c.make_key-answer.ensures.held

pub returns-clause-registered : goal.returns-clause-registered
returns-clause-registered c =
    each_ok c.make_key-answer.result c.make_key-answer.ensures.registered
    (λ k here. registered_stays c.unpin.ensures refl refl refl refl here)

pub returns-clause-unpinned : goal.returns-clause-unpinned
returns-clause-unpinned c = none_unpinned (step_acts c.unpin.ensures refl) c.make_key-answer.ensures.pinned.only
