use Rattle.std.proofs.Common.{◌≡◌, List, length, Option, Some, IfSome, ap, sym, ◌∙◌, subst, arith}
use Rattle.std.proofs.lemmas.List.{with_items_is}
use Rattle.std.specs.VecDeque.{deque_capacity}
use Rattle.nio_link.proofs.Hand.{hand_taken}
use Rattle.nio_link.proofs.Peers.{beside, taken}
use Rattle.nio_link.specs.MemoryLinks.{LinkState, IsFresh}
use Rattle.nio_link.specs.MemoryNet.{other_targets}
use Rattle.nio_link.specs.Slots.{link_at, slots_after_take}
use Rattle.nio_link.specs.declared.memory.slot.Slot.{Slot}
use Rattle.nio_link.proofs.memory.memory_net.MemoryNet.take_loose.Goals as goal

pub invariant_of-result : goal.invariant_of-result
invariant_of-result c =
    let at : link_at c.self.inside.slots.items c.args.chan ≡ Some c.in_ok-link.link =
    sym (c.in_ok-link.ensures.link ∙ ap (λ (xs : List Slot). link_at xs c.args.chan) c.deref_mut.ensures.value) in (
      subst (λ (o : Option LinkState). IfSome o IsFresh) at
          (taken c.self.inside.slots.items c.self.inside.past.items c.args.chan
          (rw (← c.self.view_is) at c.requires.unused)),
      rw c.take_target-target.ensures.target
          (beside c.self.inside.targets.items c.link.inside.peer c.self.invariant.fresh_targets),
    )

pub invariant_of-self-2 : goal.invariant_of-self-2
invariant_of-self-2 c =
    let many : length c.take_at.new.slots ≡ c.self.inside.slots.len =
    omega (arith, c.take_at.auto.slots, c.deref_mut.ensures.len, c.self.inside.slots.ok.0) in
    let at : link_at c.self.inside.slots.items c.args.chan ≡ Some c.in_ok-link.link =
    sym (c.in_ok-link.ensures.link ∙ ap (λ (xs : List Slot). link_at xs c.args.chan) c.deref_mut.ensures.value) in
    hand_taken c.self.inside.slots.items _ c.self.inside.past.items c.self.inside.clients.items
    c.self.inside.targets.items c.take_target-target.new.targets.items c.self.inside.log.changes c.push.new.self.changes
    (length c.self.inside.log.occupants) (length c.push.new.self.occupants) (deque_capacity c.self.inside.past) c.args.chan
    c.in_ok-link.link at
    (with_items_is c.self.inside.slots c.take_at.new.slots many ∙ (c.take_at.ensures.after
    ∙ (ap (λ (xs : List Slot). slots_after_take xs c.args.chan (link_at xs c.args.chan)) c.deref_mut.ensures.value
    ∙ ap (slots_after_take c.self.inside.slots.items c.args.chan) at)))
    (c.take_target-target.ensures.after
    ∙ ap (λ (l : LinkState). other_targets c.self.inside.targets.items l.peer) c.link.view_is)
    c.push.ensures.changes c.push.ensures.same_room c.self.invariant
