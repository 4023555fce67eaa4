use Rattle.std.proofs.Common.{refl}
use Rattle.nio_steps.proofs.CallLaws.{ran_pinned}
use Rattle.nio_steps.specs.SelectCalls.{list_present}
use Rattle.nio_words.proofs.Pins.{only_pinned, none_unpinned}
use Rattle.nio_words.proofs.Stepping.{still_ready}
use Rattle.nio_words.proofs.Views.{step_acts}
use Rattle.nio_select.proofs.listing.list_selected.Goals as goal

pub list_pinned-requires-clause-pinned : goal.list_pinned-requires-clause-pinned
list_pinned-requires-clause-pinned c = record {
  ready = still_ready _ _ _ _ _ _ c.pin-stage.ensures c.requires.ready;
  inside = c.requires.key;
  only = only_pinned (step_acts c.pin-stage.ensures refl) c.requires.unpinned;
}

pub returns-clause-call : goal.returns-clause-call
returns-clause-call c =
    ran_pinned (list_present c.args.sel c.args.i c.args.listed.now.items)
    (step_acts c.pin-stage.ensures refl) c.list_pinned.ensures.call (step_acts c.unpin.ensures refl)

pub returns-clause-unpinned : goal.returns-clause-unpinned
returns-clause-unpinned c = none_unpinned (step_acts c.unpin.ensures refl) c.list_pinned.ensures.pinned.only
