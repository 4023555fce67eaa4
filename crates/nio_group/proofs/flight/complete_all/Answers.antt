use Rattle.std.proofs.Common.{◌<◌, sym, ◌∙◌, arith}
use Rattle.nio_group.proofs.PendingLemmas.{filled_slots}
use Rattle.nio_group.proofs.CloseLemmas.{closing-step, closed-nothing, nothing-pending_on, listed-some}
use Rattle.nio_group.proofs.flight.complete_all.Goals as goal

pub complete-requires-clause-pending : goal.complete-requires-clause-pending
complete-requires-clause-pending c =
    let found = c.in-Some.ensures.found in
    let step = closing-step c.loop-number.flight c.args.chan c.loop-number.left c.in-Some.number c.in-Some-get.operation
    found.0 c.loop-number.invariant.1 found.1 c.in-Some.ensures.least (sym c.in-Some-get.ensures) in
    step.pending

pub loop-number-smaller-in-Some-get : goal.loop-number-smaller-in-Some-get
loop-number-smaller-in-Some-get c =
    let found = c.in-Some.ensures.found in
    let step = closing-step c.loop-number.flight c.args.chan c.loop-number.left c.in-Some.number c.in-Some-get.operation
    found.0 c.loop-number.invariant.1 found.1 c.in-Some.ensures.least (sym c.in-Some-get.ensures) in
    let fewer : filled_slots c.with-left.result < filled_slots c.loop-number.left = rw c.with-left.ensures
    (omega (arith, step.fewer)) in
    fewer

pub loop-number-preserved-in-Some-get : goal.loop-number-preserved-in-Some-get
loop-number-preserved-in-Some-get c =
    let found = c.in-Some.ensures.found in
    let step = closing-step c.loop-number.flight c.args.chan c.loop-number.left c.in-Some.number c.in-Some-get.operation
    found.0 c.loop-number.invariant.1 found.1 c.in-Some.ensures.least (sym c.in-Some-get.ensures) in
    rw (c.complete.ensures, c.with-left.ensures) (step.closed ∙ c.loop-number.invariant.0, step.on)

pub loop-number-smaller : goal.loop-number-smaller
loop-number-smaller c =
    let found = c.in-Some.ensures.found in
    absurd (listed-some c.loop-number.flight c.args.chan c.loop-number.left found.0 c.in-Some.number
    c.loop-number.invariant.1 found.1 (sym c.in_default-get.ensures))

pub returns : goal.returns
returns c =
    let on = c.loop-number.invariant.1 in
    sym (closed-nothing c.loop-number.flight c.args.chan
    (nothing-pending_on c.loop-number.flight c.args.chan c.loop-number.left on c.in_default.ensures.none))
    ∙ c.loop-number.invariant.0
