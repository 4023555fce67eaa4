use Rattle.std.proofs.Common.{refl}
use Rattle.nio_words.proofs.Pins.{no_pin_stays}
use Rattle.nio_words.proofs.Views.{step_acts}
use Rattle.nio_channel.proofs.Claimed.{all_claimed_more, has_claimed}
use Rattle.nio_channel.proofs.Held.{may_enrol_stays}
use Rattle.nio_channel.proofs.claiming.claim_new.Goals as goal

pub returns-then-claim-clause-may : goal.returns-then-claim-clause-may
returns-then-claim-clause-may c = may_enrol_stays c.claim.ensures refl refl c.requires.may

pub returns-then-claim-clause-unpinned : goal.returns-then-claim-clause-unpinned
returns-then-claim-clause-unpinned c = λ _. no_pin_stays (step_acts c.if-claim.ensures refl) refl c.requires.unpinned

pub returns-then-claim-clause-lower : goal.returns-then-claim-clause-lower
returns-then-claim-clause-lower c = all_claimed_more (step_acts c.claim.ensures refl) c.requires.lower

pub returns-else-claim-clause-may : goal.returns-else-claim-clause-may
returns-else-claim-clause-may c = may_enrol_stays c.claim.ensures refl refl c.requires.may

pub returns-else-claim-clause-claimed : goal.returns-else-claim-clause-claimed
returns-else-claim-clause-claimed c =
    has_claimed c.if-claim.ensures c.requires.may.unblocked.held.ready c.requires.key c.requires.unpinned

pub returns-else-claim-clause-lower : goal.returns-else-claim-clause-lower
returns-else-claim-clause-lower c = all_claimed_more (step_acts c.claim.ensures refl) c.requires.lower
