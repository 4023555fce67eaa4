use Rattle.std.proofs.Common.{◌≡◌, length}
use Rattle.std.specs.VecDeque.{deque_capacity}
use Rattle.nio_link.proofs.Hand.{hand_logged}
use Rattle.nio_link.proofs.Last.{close_keeps, connecting_link}
use Rattle.nio_link.specs.Places.{places_after}
use Rattle.nio_link.specs.declared.place.Change.TheVariants as change
use Rattle.nio_link.specs.declared.place.Standing.TheVariants as standing
use Rattle.nio_link.proofs.memory.memory_net.MemoryNet.finish_there.Goals as goal

pub invariant_of-self : goal.invariant_of-self
invariant_of-self c =
    let connecting : (places_after c.self.inside.log.changes c.args.chan).standing ≡ standing.Connecting =
    rw (← c.self.view_is) at c.requires in
    hand_logged c.self.inside.slots.items c.self.inside.past.items c.self.inside.clients.items
    c.self.inside.targets.items c.self.inside.log.changes c.push.new.self.changes (length c.self.inside.log.occupants)
    (length c.push.new.self.occupants) (deque_capacity c.self.inside.past) c.args.chan change.FinishConnect
    c.push.ensures.same_room c.push.ensures.changes
    (λ _. connecting_link (places_after c.self.inside.log.changes c.args.chan).standing connecting) c.self.invariant

pub invariant_of-self-in-Err : goal.invariant_of-self-in-Err
invariant_of-self-in-Err c =
    hand_logged c.self.inside.slots.items c.self.inside.past.items c.self.inside.clients.items
    c.self.inside.targets.items c.self.inside.log.changes c.push-in-Err.new.self.changes (length c.self.inside.log.occupants)
    (length c.push-in-Err.new.self.occupants) (deque_capacity c.self.inside.past) c.args.chan change.Close
    c.push-in-Err.ensures.same_room c.push-in-Err.ensures.changes
    (close_keeps (places_after c.self.inside.log.changes c.args.chan)) c.self.invariant
