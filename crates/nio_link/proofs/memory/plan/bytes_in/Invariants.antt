use Rattle.std.proofs.Common.{◌≡◌, map, take}
use Rattle.nio_link.specs.Pieces.{total}
use Rattle.nio_link.proofs.memory.plan.bytes_in.Given as goal

abbrev pub invariant-loop-piece : goal.invariant-loop-piece
invariant-loop-piece l = l.count ≡ total (map (λ piece. piece.items) (take l.piece-index l.pieces))
