use Rattle.std.proofs.Common.{◌≤◌, subst, arith}
use Rattle.nio_base.specs.declared.limits.Limits.{Limits}
use Rattle.nio_reactor.proofs.Seating.{next_drawn}
use Rattle.nio_reactor.proofs.table.draw_all.Goals as goal

pub loop-number-preserved : goal.loop-number-preserved
loop-number-preserved c =
    next_drawn c.args.words.now c.loop-number.pass c.draw.new.p c.loop-number.number c.draw.result
    c.loop-number.invariant c.if-is_err.ensures.value c.draw.ensures.answer

pub returns : goal.returns
returns c = λ n below.
    let end : c.limits-number-end.result.callers ≤ c.loop-number.number = c.loop-number-test.false in
    let all = subst (λ (l : Limits). l.callers ≤ c.loop-number.number) c.limits-number-end.ensures end in
    c.loop-number.invariant.drawn n (omega (arith, below, all))
