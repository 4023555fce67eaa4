use Rattle.std.proofs.Common.{◌≡◌, ◌+◌, ◌*◌, [], ◌∷◌, ◌++◌, length, length-append, sym, ap, arith}
use Rattle.std.proofs.lemmas.Grind.{common_steps}
use Rattle.nio_link.proofs.Hand.{length_occupants, none_spent}
use Rattle.nio_link.proofs.Last.{last_first}
use Rattle.nio_link.proofs.MemoryLaws.{clients_fresh, targets_fresh, slots_more, length_ends, ends_more}
use Rattle.nio_link.specs.NetPlans.{client_end, target_end}
use Rattle.nio_link.proofs.memory.memory_net.MemoryNet.of_plan.Goals as goal

pub loop-peer-preserved : goal.loop-peer-preserved
loop-peer-preserved c =
    let place : c.len.result ≡ 0 + length c.loop-peer.yielded =
    search (arith, ap length c.loop-peer.invariant.clients, length_ends client_end 0 c.loop-peer.yielded) in record {
      slots =
          let more : length (c.loop-peer.yielded ++ c.in-Some.peer ∷ []) ≡ length c.loop-peer.yielded + 1 =
          length-append c.loop-peer.yielded (c.in-Some.peer ∷ []) in
          rw (more, c.in_ok-push-5.ensures.items, c.in_ok-push-4.ensures.items, c.loop-peer.invariant.slots)
          (slots_more (length c.loop-peer.yielded));
      clients =
          rw (c.in_ok-push-2.ensures.items, c.in_ok-client.ensures.0, c.loop-peer.invariant.clients, place)
          (sym (ends_more client_end 0 c.loop-peer.yielded c.in-Some.peer));
      targets =
          rw (c.in_ok-push-3.ensures.items, c.in_ok-client.ensures.1, c.loop-peer.invariant.targets, place)
          (sym (ends_more target_end 0 c.loop-peer.yielded c.in-Some.peer));
    }

pub invariant_of-result : goal.invariant_of-result
invariant_of-result c = record {
  fresh_clients = rw (c.from_vec.ensures.items, c.loop-peer.invariant.clients) (clients_fresh 0 c.loop-peer.yielded);
  fresh_targets = rw (c.from_vec-2.ensures.items, c.loop-peer.invariant.targets) (targets_fresh 0 c.loop-peer.yielded);
  spent = none_spent c.loop-peer.slots.items _ (grind (arith, common_steps));
  last = rw (c.in_ok-log.ensures.changes, c.loop-peer.invariant.slots) (last_first (2 * length c.loop-peer.yielded + 1));
  held = rw (c.in_ok-log.ensures.occupants) (omega (
    arith,
    length_occupants c.len-2.result,
    length_occupants c.len-3.result,
    c.loop-peer.slots.ok.0,
  ));
  room = grind (arith, common_steps);
}
