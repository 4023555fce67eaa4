use Rattle.std.proofs.Common.{◌≡◌, ◌≢◌, IsTrue, List, length, slice_set, ap, ◌∙◌, arith}
use Rattle.std.proofs.lemmas.Grind.{common_steps}
use Rattle.std.proofs.lemmas.List.{with_items_is}
use Rattle.std.specs.VecDeque.{deque_capacity}
use Rattle.nio_link.proofs.Hand.{hand_accepted}
use Rattle.nio_link.specs.Slots.{past_after, slot_at}
use Rattle.nio_link.specs.declared.memory.slot.Slot.{Slot}
use Rattle.nio_link.specs.declared.memory.slot.Slot.TheVariants as slot
use Rattle.nio_link.specs.declared.place.Change.TheVariants as change
use Rattle.nio_link.specs.declared.place.Role.TheVariants as role
use Rattle.nio_link.proofs.memory.memory_net.MemoryNet.accept_link.Goals as goal

pub push-requires-clause-alone : goal.push-requires-clause-alone
push-requires-clause-alone c =
    let free : IsTrue c.is_free-free.result = grind (arith, common_steps) in
    rw (← c.self.view_is) at (c.is_free-free.ensures.vacant free)

pub invariant_of-self-2 : goal.invariant_of-self-2
invariant_of-self-2 c =
    let free : IsTrue c.is_free-free.result = grind (arith, common_steps) in
    let many : length c.put_at.new.slots ≡ c.self.inside.slots.len =
    omega (arith, c.put_at.auto.slots, c.deref_mut.ensures.len, c.self.inside.slots.ok.0) in
    let named : role.Accepted c.args.listener ≢ role.Nothing = λ is. absurd (cc is) in
    hand_accepted c.self.inside.slots.items _ c.self.inside.past.items c.put_at.new.past.items
    c.self.inside.log.changes c.push.new.self.changes (length c.self.inside.log.occupants)
    (length c.push.new.self.occupants) (deque_capacity c.self.inside.past) (deque_capacity c.put_at.new.past) c.args.chan
    (change.Accept c.args.listener) c.in-Some.link c.push.ensures.same_room c.put_at.ensures.capacity
    (with_items_is c.self.inside.slots c.put_at.new.slots many ∙ (c.put_at.ensures.slots
    ∙ ap (λ (xs : List Slot). slice_set xs c.args.chan.number.0 (slot.Link c.args.chan.serial c.in-Some.link))
    c.deref_mut.ensures.value))
    (c.put_at.ensures.past
    ∙ ap (λ (xs : List Slot). past_after c.args.chan.number (slot_at xs c.args.chan.number) c.self.inside.past.items)
    c.deref_mut.ensures.value) c.push.ensures.changes
    (rw (← c.self.view_is) at (c.is_free-free.ensures.inside free)) (rw (← c.self.view_is) at (c.is_free-free.ensures.later free))
    (rw (← c.self.view_is) at (c.is_free-free.ensures.vacant free)) named
    c.self.inside.clients.items c.pop_front.new.self.items c.self.inside.targets.items c.in-Some.ensures.items c.self.invariant
