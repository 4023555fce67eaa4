use Rattle.std.proofs.Common.{refl}
use Rattle.nio_channel.specs.Idle.{zero}
use Rattle.nio_bench.proofs.pair.two_callers.Goals as goal

pub make_selector-requires-clause-zero : goal.make_selector-requires-clause-zero
make_selector-requires-clause-zero c =
    let first = c.in_ok-draw.ensures.answer.1 in
    let second = c.in_ok-draw-2.ensures.answer.1 in
    record { pass = second.pass; number = second.keeps zero (first.holds refl) }
