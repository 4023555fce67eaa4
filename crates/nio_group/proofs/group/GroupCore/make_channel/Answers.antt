use Rattle.std.proofs.Common.{◌≡◌, ◌≢◌, ◌<◌, ℕ, Some, length, arith, sym, ◌∙◌}
use Rattle.nio_group.specs.GroupKept.{group_of}
use Rattle.nio_group.specs.Making.{next_name}
use Rattle.nio_group.proofs.MakingLemmas.{first-room, again-within, kept-first, kept-again}
use Rattle.nio_group.proofs.group.GroupCore.make_channel.Goals as goal

pub push_reserved-requires : goal.push_reserved-requires
push_reserved-requires c =
    let named = rw (← c.self.view_is) at c.requires.named in
    let last : c.args.chan.number ≡ length c.self.inside.channels.items = c.if-at-len.true ∙ c.len.ensures
    ∙ c.self.inside.channels.ok.0 in
    let room = first-room c.args.kind c.args.chan c.self.invariant named last in
    omega (arith, room, c.self.invariant.has_room, c.self.inside.channels.ok.0)

pub push_reserved-requires-then-at-len : goal.push_reserved-requires-then-at-len
push_reserved-requires-then-at-len c =
    let named = rw (← c.self.view_is) at c.requires.named in
    let last : c.args.chan.number ≡ length c.self.inside.channels.items = c.if-at-len.true ∙ c.len.ensures
    ∙ c.self.inside.channels.ok.0 in
    let room = first-room c.args.kind c.args.chan c.self.invariant named last in
    omega (arith, room, c.self.invariant.has_slots_room, c.self.invariant.slots, c.self.inside.pending.ok.0)

pub index_mut-requires : goal.index_mut-requires
index_mut-requires c =
    let named = rw (← c.self.view_is) at c.requires.named in
    let differ : c.args.chan.number ≢ length c.self.inside.channels.items = λ e. c.if-at-len.false
    (e ∙ sym c.self.inside.channels.ok.0 ∙ sym c.len.ensures) in
    let again = again-within c.args.kind c.args.chan c.self.invariant named differ in
    omega (arith, again.within, c.self.inside.channels.ok.0)

pub invariant_of-self : goal.invariant_of-self
invariant_of-self c =
    let named = rw (← c.self.view_is) at c.requires.named in
    let last : c.args.chan.number ≡ length c.self.inside.channels.items = c.if-at-len.true ∙ c.len.ensures
    ∙ c.self.inside.channels.ok.0 in
    let channel = c.push_reserved.ensures in
    let slot = c.push_reserved-then-at-len.ensures in
    rw (channel.items, slot.items, c.none.ensures, channel.capacity, slot.capacity)
    (kept-first c.args.kind c.args.chan c.args.endpoint c.self.invariant named c.requires.fresh last)

pub invariant_of-self-else-at-len : goal.invariant_of-self-else-at-len
invariant_of-self-else-at-len c =
    let named = rw (← c.self.view_is) at c.requires.named in
    let differ : c.args.chan.number ≢ length c.self.inside.channels.items = λ e. c.if-at-len.false
    (e ∙ sym c.self.inside.channels.ok.0 ∙ sym c.len.ensures) in
    kept-again c.args.kind c.args.chan c.args.endpoint c.self.invariant named c.requires.fresh differ
