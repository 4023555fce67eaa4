use Rattle.std.proofs.Common.{refl}
use Rattle.nio_steps.specs.Calls.{CallClause}
use Rattle.nio_steps.specs.SelectCalls.{selected_keys_plan, list_selected, ListsSelected}
use Rattle.nio_words.proofs.Pins.{no_pin_stays}
use Rattle.nio_words.proofs.Views.{step_acts}
use Rattle.nio_channel.proofs.Claimed.{mark_inside, all_claimed_below}
use Rattle.nio_words.specs.Views.{view}
use Rattle.nio_select.proofs.Listings.{lists_all, lists_none, refused}
use Rattle.nio_select.proofs.listing.selected_keys.Goals as goal

pub returns-then-look_gate-clause-unpinned : goal.returns-then-look_gate-clause-unpinned
returns-then-look_gate-clause-unpinned c = no_pin_stays (step_acts c.look_gate.ensures refl) refl c.requires.unpinned

pub returns-in_err-listed-clause-call : goal.returns-in_err-listed-clause-call
unfolding selected_keys_plan
returns-in_err-listed-clause-call c =
    refused (λ v. v.items)
    (CallClause c.args.me (ListsSelected c.args.sel) (view c.args.w.now c.args.p.now)
    (view c.args.w.now c.look_keys-bound.new.p))
    c.from_residual.result c.from_residual.ensures.1
    (lists_none list_selected (step_acts c.look_gate.ensures refl) c.if-look_gate.false
    (step_acts c.look_keys-bound.ensures refl))

pub returns-in_err-listed-clause-unpinned : goal.returns-in_err-listed-clause-unpinned
returns-in_err-listed-clause-unpinned c =
    no_pin_stays (step_acts c.look_keys-bound.ensures refl) refl
    (no_pin_stays (step_acts c.look_gate.ensures refl) refl c.requires.unpinned)

pub list_selected_below-requires-clause-bound : goal.list_selected_below-requires-clause-bound
list_selected_below-requires-clause-bound c = mark_inside (step_acts c.look_keys-bound.ensures refl)

pub list_selected_below-requires-clause-claimed : goal.list_selected_below-requires-clause-claimed
list_selected_below-requires-clause-claimed c = all_claimed_below (step_acts c.look_keys-bound.ensures refl)

pub list_selected_below-requires-clause-unpinned : goal.list_selected_below-requires-clause-unpinned
list_selected_below-requires-clause-unpinned c =
    no_pin_stays (step_acts c.look_keys-bound.ensures refl) refl
    (no_pin_stays (step_acts c.look_gate.ensures refl) refl c.requires.unpinned)

pub returns-clause-call : goal.returns-clause-call
unfolding selected_keys_plan
returns-clause-call c =
    lists_all list_selected (step_acts c.look_gate.ensures refl) c.if-look_gate.false
    (step_acts c.look_keys-bound.ensures refl) c.list_selected_below.ensures.call
