use Rattle.std.proofs.Common.{rules, sym, arith}
use Rattle.std.specs.Vec.{vec_capacity}
use Rattle.nio_select.specs.Asked.{keys_to}
use Rattle.nio_checked.proofs.Polling.{listed_more, room_for_next}
use Rattle.nio_checked.proofs.told.list.Goals as goal

pub push_reserved-requires : goal.push_reserved-requires
push_reserved-requires c =
    omega (
      arith,
      c.loop-index.told.ok,
      room_for_next c.args.pairs.now c.loop-index.index c.in-Some.key c.args.asked.now.keys c.loop-index.told.items
          (vec_capacity c.loop-index.told) c.loop-index.invariant.told c.in-Some.ensures.next c.loop-index.invariant.room,
    )

pub loop-index-preserved : goal.loop-index-preserved
loop-index-preserved c = elim c.match-key.branch [
  | goal.in-Some w ↦ record {
    told = rw (
      w.told-is,
      w.push_reserved.ensures.items,
      w.meet.ensures,
      w.told_of.ensures,
      c.loop-index.invariant.told,
      w.in-Some.ensures.next,
    )
        (sym (listed_more c.args.pairs.now w.in-Some.key (keys_to c.loop-index.index c.args.asked.now.keys)));
    room = search rules;
  }
  | goal.in_default w ↦ record { told = search rules; room = search rules }
]
