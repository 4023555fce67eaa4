use Rattle.std.proofs.Common.{◌≡◌, ◌+◌, length, arith}
use Rattle.std.proofs.lemmas.Grind.{common_steps}
use Rattle.nio_link.proofs.Pieces.{total_more}
use Rattle.nio_link.proofs.memory.plan.bytes_in.Goals as goal

pub loop-piece-preserved : goal.loop-piece-preserved
loop-piece-preserved c =
    let more =
    total_more (λ piece. piece.items) c.args.pieces.now c.loop-piece.piece-index c.piece-item.result
    c.loop-piece-test.true c.piece-item.is in
    let counted : c.in_ok-count.count ≡ c.loop-piece.count + length c.piece-item.result.items =
    grind (arith, common_steps) in
    omega (arith, more, counted, c.loop-piece.invariant)
