use Rattle.std.proofs.Common.{◌≡◌, ◌<◌, [], ◌∷◌, drop, length, map, arith}
use Rattle.std.proofs.lemmas.Grind.{common_steps}
use Rattle.std.specs.Vec.Iter.{into_iter_items}
use Rattle.nio_link.proofs.Pieces.{left_next}
use Rattle.nio_link.proofs.memory.pieces.Pieces.read.Goals as goal

pub returns-clause-left : goal.returns-clause-left
returns-clause-left c =
    let next : into_iter_items c.self.inside.later ≡ c.in-Some.piece ∷ into_iter_items c.next.new.self =
    c.in-Some.ensures.items in
    let over : drop c.self.inside.at c.self.inside.begun.items ≡ [] = grind (arith, common_steps) in
    let some : 0 < length c.in-Some.piece.items = grind (arith, common_steps) in
    rw (← c.self.view_is, next)
    (left_next _ c.in-Some.piece.items (map (λ piece. piece.items) (into_iter_items c.next.new.self))
    (length c.args.into.now) c.give-count-2.result over some (search (arith)))
