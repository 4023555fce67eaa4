use Rattle.std.proofs.Common.{Err, false, refl}
use Rattle.nio_history.specs.declared.found.Mode.TheVariants.{Now as WithoutWaiting}
use Rattle.nio_select.proofs.TakenBits.{taken_after}
use Rattle.nio_steps.proofs.CallLaws.{returned, left_ask, left_then, left_else, left_after, left_of_call, call_as}
use Rattle.nio_steps.specs.Calls.{CallClause}
use Rattle.nio_steps.specs.Runs.{Completes}
use Rattle.nio_steps.specs.SelectCalls.{Begins, try_begin_plan, begin_open, begin_lacks_memory}
use Rattle.nio_steps.specs.declared.refusal.BeginError.{BeginError}
use Rattle.nio_words.proofs.Views.{step_acts}
use Rattle.nio_words.specs.Views.{view}
use Rattle.nio_select.specs.Asked.{known_of}
use Rattle.nio_select.specs.Beginning.{begun_with}
use Rattle.nio_select.proofs.Beginnings.{fill_stays}
use Rattle.nio_select.proofs.beginning.begin.Goals as goal

pub begin_open-requires : goal.begin_open-requires
begin_open-requires c = record { may = fill_stays c.look_gate.ensures refl c.requires.may }

pub returns-then-look_gate-clause-call : goal.returns-then-look_gate-clause-call
unfolding try_begin_plan
returns-then-look_gate-clause-call c = λ mode.
    let known = known_of c.args.asked.now in
    let call : CallClause c.args.me (Completes (try_begin_plan c.args.sel mode known false))
    (view c.args.w.now c.args.p.now) (view c.args.w.now c.look_gate.new.p) (Err BeginError.ClosedSelector) =
    returned (left_ask _ (step_acts c.look_gate.ensures refl)
    (left_then _ _ _ c.if-look_gate.true (left_after (step_acts c.look_gate.ensures refl)))) in
    call_as (Begins c.args.sel mode known) (Err BeginError.ClosedSelector) (λ acts run. run) call

pub returns-clause-call : goal.returns-clause-call
unfolding try_begin_plan
returns-clause-call c = λ mode.
    let known = known_of c.args.asked.now in
    let answer = begun_with c.args.sel mode c.begin_open.new.asked c.begin_open.result in
    let lacks = begin_lacks_memory answer in
    let rest : CallClause c.args.me (Completes (begin_open c.args.sel mode known lacks))
    (view c.args.w.now c.look_gate.new.p) (view c.args.w.now c.begin_open.new.p) answer =
    call_as _ _ (λ acts run. run) (c.begin_open.ensures.call mode) in
    let call : CallClause c.args.me (Completes (try_begin_plan c.args.sel mode known lacks))
    (view c.args.w.now c.args.p.now) (view c.args.w.now c.begin_open.new.p) answer =
    returned (left_ask _ (step_acts c.look_gate.ensures refl)
    (left_else _ _ _ c.if-look_gate.false (left_of_call rest))) in
    call_as (Begins c.args.sel mode known) answer (λ acts run. run) call

pub returns-clause-taken : goal.returns-clause-taken
returns-clause-taken c =
    taken_after c.args.sel c.args.me _ c.begin_open.new.asked.changed c.begin_open.result
    (step_acts c.look_gate.ensures refl) (c.begin_open.ensures.call WithoutWaiting).acts (λ i. refl)
    c.begin_open.ensures.taken
