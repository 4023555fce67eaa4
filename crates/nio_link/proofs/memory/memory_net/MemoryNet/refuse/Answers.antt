use Rattle.std.proofs.Common.{Err, length}
use Rattle.std.specs.VecDeque.{deque_capacity}
use Rattle.nio_link.proofs.Hand.{hand_logged}
use Rattle.nio_link.specs.declared.place.Change.TheVariants as change
use Rattle.nio_link.proofs.memory.memory_net.MemoryNet.refuse.Goals as goal

pub invariant_of-self : goal.invariant_of-self
invariant_of-self c =
    hand_logged c.self.inside.slots.items c.self.inside.past.items c.self.inside.clients.items
    c.self.inside.targets.items c.self.inside.log.changes c.push.new.self.changes (length c.self.inside.log.occupants)
    (length c.push.new.self.occupants) (deque_capacity c.self.inside.past) c.args.chan
    (change.Connect c.args.to (Err (record {}))) c.push.ensures.same_room c.push.ensures.changes
    (λ link. absurd (cc link)) c.self.invariant
