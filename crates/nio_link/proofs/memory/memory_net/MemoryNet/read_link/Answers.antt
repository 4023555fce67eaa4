use Rattle.std.proofs.Common.{◌≡◌, List, length, ap, ◌∙◌, arith}
use Rattle.std.proofs.lemmas.List.{with_items_is}
use Rattle.std.specs.VecDeque.{deque_capacity}
use Rattle.nio_link.proofs.Hand.{hand_read}
use Rattle.nio_link.proofs.Last.{found_standing}
use Rattle.nio_link.specs.Places.{places_after}
use Rattle.nio_link.specs.Slots.{if_linked, link_at, slots_after_read}
use Rattle.nio_link.specs.declared.memory.slot.Slot.{Slot}
use Rattle.nio_link.proofs.memory.memory_net.MemoryNet.read_link.Goals as goal

pub invariant_of-self : goal.invariant_of-self
invariant_of-self c =
    let many : length c.read_at-result.new.slots ≡ c.self.inside.slots.len =
    omega (arith, c.read_at-result.auto.slots, c.deref_mut.ensures.len, c.self.inside.slots.ok.0) in
    hand_read c.self.inside.slots.items _ c.self.inside.past.items c.self.inside.clients.items
    c.self.inside.targets.items (places_after c.self.inside.log.changes) (length c.self.inside.log.occupants)
    (deque_capacity c.self.inside.past) c.args.chan c.stands-is_linked.result c.args.into.now
    (with_items_is c.self.inside.slots c.read_at-result.new.slots many ∙ (c.read_at-result.ensures.after
    ∙ ap (λ (xs : List Slot). slots_after_read xs c.args.chan (if_linked c.stands-is_linked.result (link_at xs c.args.chan)) c.args.into.now)
    c.deref_mut.ensures.value)) c.self.invariant

pub returns-clause-there : goal.returns-clause-there
returns-clause-there c =
    rw (← c.self.view_is) (found_standing c.self.inside.slots.items (places_after c.self.inside.log.changes) c.args.chan
    c.self.invariant.last)
