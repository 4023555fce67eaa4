use Rattle.std.proofs.Common.{refl}
use Rattle.nio_steps.proofs.CallLaws.{ran_pinned}
use Rattle.nio_steps.specs.KeyCalls.{cancel_plan, cancel_present}
use Rattle.nio_steps.specs.Names.{key}
use Rattle.nio_words.proofs.Pins.{only_pinned, none_unpinned}
use Rattle.nio_words.proofs.Stepping.{still_ready}
use Rattle.nio_words.proofs.Views.{step_acts}
use Rattle.nio_channel.proofs.closing.cancel.Goals as goal

pub cancel_pinned-requires : goal.cancel_pinned-requires
cancel_pinned-requires c = record {
  ready = still_ready _ _ _ _ _ _ c.pin-stage.ensures c.requires.ready;
  inside = c.requires.inside;
  only = only_pinned (step_acts c.pin-stage.ensures refl) c.requires.unpinned;
}

pub returns-clause-call : goal.returns-clause-call
unfolding cancel_plan
returns-clause-call c =
    ran_pinned (cancel_present (key c.args.sel c.args.k))
    (step_acts c.pin-stage.ensures refl) c.cancel_pinned.ensures.call (step_acts c.unpin.ensures refl)

pub returns-clause-unpinned : goal.returns-clause-unpinned
returns-clause-unpinned c = none_unpinned (step_acts c.unpin.ensures refl) c.cancel_pinned.ensures.pinned.only
