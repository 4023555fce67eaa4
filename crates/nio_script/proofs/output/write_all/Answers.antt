use Rattle.std.proofs.Common.{◌<◌, length, ap, ◌∙◌, length-drop, arith}
use Rattle.nio_script.proofs.Writing.{writes_on, unflushed_on, rest_from}
use Rattle.nio_script.proofs.output.write_all.Goals as goal

pub loop-taken-preserved : goal.loop-taken-preserved
loop-taken-preserved g c =
    let kept = c.loop-taken.invariant in
    let bytes = c.args.bytes.now in
    let rest = ap length (rest_from c.loop-taken.taken bytes) ∙ length-drop c.loop-taken.taken bytes in
    let some : 0 < c.in-Ok.count = c.in-Ok.ensures.some (omega arith) in
    record {
      within = omega (arith, c.in-Ok.ensures.within);
      written = writes_on g.K.Sink _ _ _ bytes c.loop-taken.taken c.in-Ok.count kept.written c.in-Ok.ensures.taken;
      untouched = λ none. absurd (omega arith);
      unflushed = λ _. unflushed_on g.K.Sink _ _ _ c.loop-taken.taken kept.untouched kept.unflushed
          c.in-Ok.ensures.unflushed;
      still = c.in-Ok.ensures.cause.still ∙ kept.still;
    }
