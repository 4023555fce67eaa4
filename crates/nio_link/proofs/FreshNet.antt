-- A net in memory that was just made has carried nothing, and no channel of it was asked to be anything.
use Rattle.std.proofs.Common.{◌≡◌, ◌+◌, ◌*◌, [], length, refl, subst, sym}
use Rattle.nio_base.specs.declared.numbers.ChanId.{ChanId}
use Rattle.nio_link.proofs.Growing.{goes_on}
use Rattle.nio_link.specs.Links.{IsUnused}
use Rattle.nio_link.specs.NetPlans.{planned}
use Rattle.nio_link.specs.Places.{places_after, never_asked}
use Rattle.nio_link.specs.Slots.{carried_at, carried_by, link_of, nothing_carried}
use Rattle.nio_link.specs.declared.memory.plan.NetPlan.{NetPlan}
use Rattle.nio_link.specs.declared.memory.slot.Slot.TheVariants as slot

pub planned_unused : (plan : NetPlan) (c : ChanId) → IsUnused (carried_at (planned plan).slots [] c)
planned_unused plan c =
    subst (λ s. IsUnused (carried_by (link_of s c.serial) nothing_carried))
    (sym (goes_on slot.Free [] (2 * length plan.peers.items + 1) c.number.0))
    (record { got = refl; ended = refl; put = refl; shut = refl })

pub planned_unasked : (plan : NetPlan) (c : ChanId) → places_after (planned plan).changes c ≡ never_asked
planned_unasked plan c = refl
