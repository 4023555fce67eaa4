use Rattle.std.proofs.Common.{◌≡◌, ◌+◌, ◌∷◌, ◌++◌, [], List, length, slice_set, ap, ◌∙◌, arith}
use Rattle.std.proofs.lemmas.Grind.{common_steps}
use Rattle.std.proofs.lemmas.List.{with_items_is}
use Rattle.std.specs.VecDeque.{deque_capacity}
use Rattle.nio_base.specs.declared.numbers.ChanId.{ChanId}
use Rattle.nio_link.proofs.Hand.{hand_put_in, held_grown_room}
use Rattle.nio_link.proofs.Handing.{length_grown}
use Rattle.nio_link.proofs.Last.{free_comes}
use Rattle.nio_link.specs.PlaceLogs.{grown_occupants}
use Rattle.nio_link.specs.Places.{places_after}
use Rattle.nio_link.specs.Slots.{grown, past_after, slot_at}
use Rattle.nio_link.specs.declared.memory.slot.Slot.{Slot}
use Rattle.nio_link.specs.declared.memory.slot.Slot.TheVariants as slot
use Rattle.nio_link.specs.declared.place.Change.{Change}
use Rattle.nio_link.specs.declared.place.Change.TheVariants as change
use Rattle.nio_link.proofs.memory.memory_net.MemoryNet.put_loose.Goals as goal

pub put_at-requires-clause-inside : goal.put_at-requires-clause-inside
put_at-requires-clause-inside c =
    let grows : c.make_room-made.new.slots.items ≡ grown c.self.inside.slots.items (c.args.chan.number.0 + 2) =
    grind (arith, common_steps) in
    rw (c.deref_mut.ensures.value, grows)
    (omega (arith, length_grown c.self.inside.slots.items (c.args.chan.number.0 + 2)))

pub push-requires-clause-room : goal.push-requires-clause-room
push-requires-clause-room c =
    let holds : c.make_room-made.new.log.occupants ≡ grown_occupants c.self.inside.log.occupants (c.args.chan.number.0 + 2) =
    grind (arith, common_steps) in
    λ _. rw holds (omega (
      arith,
      length_grown c.self.inside.slots.items (c.args.chan.number.0 + 2),
      held_grown_room c.self.inside.slots.items c.self.inside.log.occupants (c.args.chan.number.0 + 2) c.self.invariant.held,
    ))

pub returns-clause-later : goal.returns-clause-later
returns-clause-later c =
    rw (← c.self.view_is) (free_comes c.self.inside.slots.items (places_after c.self.inside.log.changes) c.args.chan
    (rw (← c.self.view_is) at c.requires) c.self.invariant.last)

pub invariant_of-self-2 : goal.invariant_of-self-2
invariant_of-self-2 c =
    let grows : c.make_room-made.new.slots.items ≡ grown c.self.inside.slots.items (c.args.chan.number.0 + 2) =
    grind (arith, common_steps) in
    let holds : c.make_room-made.new.log.occupants ≡ grown_occupants c.self.inside.log.occupants (c.args.chan.number.0 + 2) =
    grind (arith, common_steps) in
    let many : length c.put_at.new.slots ≡ c.make_room-made.new.slots.len =
    omega (arith, c.put_at.auto.slots, c.deref_mut.ensures.len, c.make_room-made.new.slots.ok.0) in
    hand_put_in c.self.inside.slots.items c.make_room-made.new.slots.items _ c.self.inside.past.items
    c.put_at.new.past.items c.self.inside.clients.items c.self.inside.targets.items c.put_first.new.targets.items
    c.self.inside.log.changes c.push.new.self.changes (length c.self.inside.log.occupants)
    (length c.make_room-made.new.log.occupants) (length c.push.new.self.occupants) (deque_capacity c.self.inside.past)
    (deque_capacity c.put_at.new.past) c.args.chan c.end_under-end.result c.link.inside.target grows
    (rw grows (omega (arith, length_grown c.self.inside.slots.items (c.args.chan.number.0 + 2))))
    (free_comes c.self.inside.slots.items (places_after c.self.inside.log.changes) c.args.chan
    (rw (← c.self.view_is) at c.requires) c.self.invariant.last)
    (with_items_is c.make_room-made.new.slots c.put_at.new.slots many ∙ (c.put_at.ensures.slots
    ∙ ap (λ (xs : List Slot). slice_set xs c.args.chan.number.0 (slot.Link c.args.chan.serial c.end_under-end.result))
    c.deref_mut.ensures.value))
    (c.put_at.ensures.past ∙ (ap (λ (xs : List Slot). past_after c.args.chan.number (slot_at xs c.args.chan.number)
    c.make_room-made.new.past.items) c.deref_mut.ensures.value
    ∙ ap (past_after c.args.chan.number (slot_at c.make_room-made.new.slots.items c.args.chan.number))
    c.make_room-made.ensures.past))
    (grind (arith, common_steps)) c.link.invariant.1
    (c.push.ensures.changes ∙ ap (λ (xs : List (ChanId × Change)). xs ++ (c.args.chan, change.PutIn) ∷ [])
    c.make_room-made.ensures.changes)
    (rw (← c.self.view_is) at c.requires.vacant) c.push.ensures.same_room
    (rw (grows, holds) (held_grown_room c.self.inside.slots.items c.self.inside.log.occupants (c.args.chan.number.0 + 2)
    c.self.invariant.held))
    (grind (arith, common_steps)) c.self.invariant
