use Rattle.std.proofs.Common.{◌≡◌, IsTrue, true, List, length, ap, sym, ◌∙◌, arith}
use Rattle.std.proofs.lemmas.Grind.{common_steps}
use Rattle.std.proofs.lemmas.List.{with_items_is}
use Rattle.std.specs.VecDeque.{deque_capacity}
use Rattle.nio_link.proofs.Hand.{hand_logged, hand_shut}
use Rattle.nio_link.proofs.Last.{linked_stands}
use Rattle.nio_link.specs.Places.{places_after, stands}
use Rattle.nio_link.specs.Slots.{if_linked, link_at, slots_after_shut}
use Rattle.nio_link.specs.declared.memory.slot.Slot.{Slot}
use Rattle.nio_link.specs.declared.place.Change.TheVariants as change
use Rattle.nio_link.proofs.memory.memory_net.MemoryNet.shut_link.Goals as goal

pub invariant_of-self : goal.invariant_of-self
invariant_of-self c =
    let many : length c.shut_at.new.slots ≡ c.self.inside.slots.len =
    omega (arith, c.shut_at.auto.slots, c.deref_mut.ensures.len, c.self.inside.slots.ok.0) in
    let linked : c.stands-is_linked.result ≡ true = grind (arith, common_steps) in
    let standing : IsTrue (stands (places_after c.self.inside.log.changes c.args.chan)) =
    sym c.stands-is_linked.ensures ∙ linked in
    hand_logged _ c.self.inside.past.items c.self.inside.clients.items c.self.inside.targets.items
    c.self.inside.log.changes c.push.new.self.changes (length c.self.inside.log.occupants)
    (length c.push.new.self.occupants) (deque_capacity c.self.inside.past) c.args.chan change.ShutWrite
    c.push.ensures.same_room c.push.ensures.changes
    (λ _. linked_stands (places_after c.self.inside.log.changes c.args.chan).standing standing)
    (hand_shut c.self.inside.slots.items _ c.self.inside.past.items c.self.inside.clients.items
    c.self.inside.targets.items (places_after c.self.inside.log.changes) (length c.self.inside.log.occupants)
    (deque_capacity c.self.inside.past) c.args.chan c.stands-is_linked.result
    (with_items_is c.self.inside.slots c.shut_at.new.slots many ∙ (c.shut_at.ensures.after
    ∙ ap (λ (xs : List Slot). slots_after_shut xs c.args.chan (if_linked c.stands-is_linked.result (link_at xs c.args.chan)))
    c.deref_mut.ensures.value)) c.self.invariant)
