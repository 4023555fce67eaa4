use Rattle.std.proofs.Common.{◌≡◌, Option, List, ap, ◌∙◌, subst, map, length}
use Rattle.std.proofs.lemmas.List.{length-map}
use Rattle.nio_select.specs.Asked.{Looked, renumbered_key}
use Rattle.nio_select.specs.KeyKept.{keys_from}
use Rattle.nio_select.specs.Kept.{renumbered_slot}
use Rattle.nio_select.specs.declared.slot.Slot.{Slot}
use Rattle.nio_select.proofs.KeptKeys.{keys_renumbered}
use Rattle.nio_select.proofs.RenumberedSlots.{one_renumbered, all_renumbered, kept_renumbered}
use Rattle.nio_select.proofs.asked.Asked.renumbered.Goals as goal

pub loop-slot-init : goal.loop-slot-init
loop-slot-init g c = c.in_ok-slots.ensures.items

pub loop-slot-preserved : goal.loop-slot-preserved
loop-slot-preserved g c =
    one_renumbered (g.B.Renumber.renumbered c.args.by.now) c.deref-slot-items.result.now c.loop-slot.slots.items _
    c.loop-slot.slot-index c.slot-item.result c.renumber_slot.result c.loop-slot-test.true c.slot-item.is
    c.renumber_slot.ensures c.in_ok-push.ensures.items c.loop-slot.invariant

pub invariant_of-result : goal.invariant_of-result
invariant_of-result g c =
    let by = g.B.Renumber.renumbered c.args.by.now in
    let slots = c.self.inside.slots.items in
    let made : c.loop-slot.slots.items ≡ map (renumbered_slot by) slots =
    subst (λ (xs : List (Option Slot)). c.loop-slot.slots.items ≡ map (renumbered_slot by) xs) c.deref-slot-items.ensures.value
    (all_renumbered by _ _ c.loop-slot.slot-index c.loop-slot-test.false c.loop-slot.invariant) in
    kept_renumbered by slots c.loop-slot.slots.items c.self.inside.noted c.in_ok-copied.field-0 c.self.inside.count made
    c.in_ok-copied.ensures.told c.in_ok-copied.ensures.words c.self.invariant

pub returns-clause-keys : goal.returns-clause-keys
returns-clause-keys g c =
    let by = g.B.Renumber.renumbered c.args.by.now in
    let slots = c.self.inside.slots.items in
    let made : c.loop-slot.slots.items ≡ map (renumbered_slot by) slots =
    subst (λ (xs : List (Option Slot)). c.loop-slot.slots.items ≡ map (renumbered_slot by) xs) c.deref-slot-items.ensures.value
    (all_renumbered by _ _ c.loop-slot.slot-index c.loop-slot-test.false c.loop-slot.invariant) in
    ap (keys_from 0) made
    ∙ (keys_renumbered by 0 slots ∙ ap (λ (v : Looked). map (renumbered_key by) v.keys) c.self.view_is)

pub returns-clause-bound : goal.returns-clause-bound
returns-clause-bound g c =
    let by = g.B.Renumber.renumbered c.args.by.now in
    let slots = c.self.inside.slots.items in
    let made : c.loop-slot.slots.items ≡ map (renumbered_slot by) slots =
    subst (λ (xs : List (Option Slot)). c.loop-slot.slots.items ≡ map (renumbered_slot by) xs) c.deref-slot-items.ensures.value
    (all_renumbered by _ _ c.loop-slot.slot-index c.loop-slot-test.false c.loop-slot.invariant) in
    ap length made ∙ (length-map slots (renumbered_slot by) ∙ ap (λ (v : Looked). v.bound) c.self.view_is)
