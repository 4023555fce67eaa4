use Rattle.std.proofs.Common.{◌≡◌, ◌*◌, ◌<◌, Some, [], ◌∷◌, ◌++◌, map, refl, sym, ap, ◌∙◌}
use Rattle.nio_reactor.proofs.Listening.{put_spare}
use Rattle.nio_reactor.proofs.Lists.{all_more}
use Rattle.nio_reactor.proofs.Received.{numbers_next}
use Rattle.nio_reactor.specs.Receiving.{in_hand, put_number}
use Rattle.nio_reactor.proofs.by_line.ByLineWayLane.accept.Goals as goal

pub invariant_of-lane-then-is_err-clause-spare : goal.invariant_of-lane-then-is_err-clause-spare
invariant_of-lane-then-is_err-clause-spare g c =
    put_spare _ _ _ _ _ _ c.put_in.ensures (c.if-not-is_open.ensures.open refl) c.requires.free c.args.lane.now.spare

pub invariant_of-lane-then-is_err-clause-numbers : goal.invariant_of-lane-then-is_err-clause-numbers
invariant_of-lane-then-is_err-clause-numbers g c =
    c.hear.ensures.numbers _ c.args.lane.now.numbers
    ∙ ap (λ l. map put_number c.args.lane.now.put ++ l)
    (c.in-Some.ensures.taken.0 ∙ ap (λ k. Some k ∷ []) (sym c.into_parts-connection.ensures))

pub invariant_of-lane-2-clause-spare : goal.invariant_of-lane-2-clause-spare
invariant_of-lane-2-clause-spare g c =
    put_spare _ _ _ _ _ _ c.put_in.ensures (c.if-not-is_open.ensures.open refl) c.requires.free c.args.lane.now.spare

pub invariant_of-lane-2-clause-numbers : goal.invariant_of-lane-2-clause-numbers
invariant_of-lane-2-clause-numbers g c =
    numbers_next c.args.lane.now.put c.push.new.self _ _ (in_hand c.hear.new.heard) (in_hand c.take_link.new.heard)
    c.push.ensures (c.hear.ensures.numbers _ c.args.lane.now.numbers)
    (c.in-Some.ensures.taken.0 ∙ ap (λ k. Some k ∷ []) (sym c.into_parts-connection.ensures))
    (ap in_hand c.in-Some.ensures.taken.1)

pub invariant_of-lane-2-clause-own : goal.invariant_of-lane-2-clause-own
invariant_of-lane-2-clause-own g c =
    all_more (λ h. h.worker ≡ c.args.lane.now.worker) c.args.lane.now.put c.push.new.self _ c.push.ensures
    c.args.lane.now.own refl

pub invariant_of-lane-2-clause-within : goal.invariant_of-lane-2-clause-within
invariant_of-lane-2-clause-within g c =
    all_more (λ h. h.client.number.0 < 2 * c.args.lane.now.slots) c.args.lane.now.put c.push.new.self _ c.push.ensures
    c.args.lane.now.within c.if-chan-lane.false
