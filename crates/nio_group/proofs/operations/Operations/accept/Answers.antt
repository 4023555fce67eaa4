use Rattle.std.proofs.Common.{sym, ap, arith}
use Rattle.nio_group.proofs.KeptLemmas.{length-kept, kept-accepts, is_kept-accepts}
use Rattle.nio_group.proofs.operations.Operations.accept.Goals as goal

pub invariant_of-self : goal.invariant_of-self
invariant_of-self c =
    let i = c.self.inside in
    let slot = c.insert_reserved-key.ensures in
    let put = c.insert.ensures in
    let kept = c.self.invariant in
    let room = rw (← c.self.view_is) at c.requires.room in
    let numbers = rw (← c.self.view_is) at c.requires.numbers in
    is_kept-accepts c.insert_reserved-key.result c.args.operation kept slot.was_vacant slot.updates put.changes slot.len
    put.count slot.capacity put.limit (omega (arith, room, kept.counted))
    (omega (arith, numbers, length-kept i.slab i.index i.accepted))

pub returns-clause-number : goal.returns-clause-number
returns-clause-number c =
    let i = c.self.inside in
    rw (← c.self.view_is) (sym (length-kept i.slab i.index i.accepted))

pub returns-clause-accepts : goal.returns-clause-accepts
returns-clause-accepts c =
    let slot = c.insert_reserved-key.ensures in
    rw (← c.self.view_is)
    (ap (λ xs. record { operations = xs; limit = c.self.inside.limit })
    (kept-accepts c.insert_reserved-key.result c.args.operation c.self.invariant slot.was_vacant slot.updates
    c.insert.ensures.changes))
