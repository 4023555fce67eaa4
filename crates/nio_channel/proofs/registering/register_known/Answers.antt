use Rattle.std.proofs.Common.{refl}
use Rattle.nio_steps.proofs.CallLaws.{ran_pinned}
use Rattle.nio_steps.specs.ChannelCalls.{register_enrolled}
use Rattle.nio_words.proofs.Pins.{only_pinned, none_unpinned}
use Rattle.nio_words.proofs.Stepping.{still_ready}
use Rattle.nio_words.proofs.Views.{step_acts}
use Rattle.nio_channel.proofs.Chains.{each_some_ok}
use Rattle.nio_channel.proofs.Held.{unblocked_stays, may_enrol_stays}
use Rattle.nio_channel.proofs.Registered.{pinned_key, pinned_outside, registered_stays}
use Rattle.nio_channel.proofs.registering.register_known.Goals as goal

pub register_enrolled-over-requires-clause-unblocked : goal.register_enrolled-over-requires-clause-unblocked
register_enrolled-over-requires-clause-unblocked c = unblocked_stays c.pin-stage.ensures refl refl c.requires.unblocked

pub register_enrolled-over-requires-clause-pinned : goal.register_enrolled-over-requires-clause-pinned
register_enrolled-over-requires-clause-pinned c = record {
  ready = still_ready _ _ _ _ _ _ c.pin-stage.ensures c.requires.unblocked.held.ready;
  inside = c.requires.inside;
  only = only_pinned (step_acts c.pin-stage.ensures refl) c.requires.unpinned;
}

pub register_enrolled-over-requires-clause-has : goal.register_enrolled-over-requires-clause-has
register_enrolled-over-requires-clause-has c = λ inside. pinned_key c.pin-stage.ensures c.requires.inside inside

pub register_enrolled-over-requires-clause-may : goal.register_enrolled-over-requires-clause-may
register_enrolled-over-requires-clause-may c =
    λ out. pinned_outside c.pin-stage.ensures c.requires.unblocked c.requires.enrolled out

pub returns-clause-call : goal.returns-clause-call
returns-clause-call c =
    ran_pinned (register_enrolled c.args.wanted.now.sel c.args.wanted.now.ops c.args.wanted.now.att c.args.k)
    (step_acts c.pin-stage.ensures refl) c.register_enrolled-over.ensures.call (step_acts c.unpin.ensures refl)

pub returns-clause-unblocked : goal.returns-clause-unblocked
returns-clause-unblocked c = unblocked_stays c.unpin.ensures refl refl c.register_enrolled-over.ensures.unblocked

pub returns-clause-may : goal.returns-clause-may
returns-clause-may c = λ none. may_enrol_stays c.unpin.ensures refl refl (c.register_enrolled-over.ensures.may none)

pub returns-clause-registered : goal.returns-clause-registered
returns-clause-registered c =
    each_some_ok c.register_enrolled-over.result c.register_enrolled-over.ensures.registered
    (λ k here. registered_stays c.unpin.ensures refl refl refl refl here)

pub returns-clause-unpinned : goal.returns-clause-unpinned
returns-clause-unpinned c = none_unpinned (step_acts c.unpin.ensures refl) c.register_enrolled-over.ensures.pinned.only
