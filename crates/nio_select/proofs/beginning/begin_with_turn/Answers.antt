use Rattle.std.proofs.Common.{Err, false, refl}
use Rattle.nio_channel.proofs.Held.{had_stays}
use Rattle.nio_channel.proofs.Claimed.{mark_inside}
use Rattle.nio_history.specs.Permanent.{the_turn}
use Rattle.nio_select.specs.Asked.{known_of}
use Rattle.nio_select.specs.Beginning.{BeginsWithTurn, begun_with}
use Rattle.nio_select.proofs.Begun.{begun_stays, begins}
use Rattle.nio_select.proofs.Beginnings.{fill_stays}
use Rattle.nio_select.proofs.beginning.begin_with_turn.Goals as goal
use Rattle.nio_history.specs.declared.found.Mode.TheVariants.{Now as WithoutWaiting}
use Rattle.nio_select.proofs.TakenBits.{taken_after, acts_after}
use Rattle.nio_steps.proofs.CallLaws.{returned, left_ask, left_then, left_else, left_after, left_of_call, call_as}
use Rattle.nio_steps.specs.Calls.{CallClause}
use Rattle.nio_steps.specs.Runs.{Completes}
use Rattle.nio_steps.specs.SelectCalls.{begin_below, begin_with_turn, begin_lacks_memory}
use Rattle.nio_steps.specs.declared.refusal.BeginError.{BeginError}
use Rattle.nio_words.proofs.Views.{step_acts}
use Rattle.nio_words.specs.Views.{view}

pub give_turn-requires-clause-turn : goal.give_turn-requires-clause-turn
give_turn-requires-clause-turn c =
    had_stays (the_turn c.args.sel) c.begin_look.ensures refl refl c.requires.may.ready.pass c.requires.turn

pub returns-then-begin_look-clause-call : goal.returns-then-begin_look-clause-call
returns-then-begin_look-clause-call c = λ mode.
    let known = known_of c.args.asked.now in
    let call : CallClause c.args.me (Completes (begin_with_turn c.args.sel mode known false))
    (view c.args.w.now c.args.p.now) (view c.args.w.now c.give_turn.new.p) (Err BeginError.ClosedSelector) =
    returned (left_ask _ (step_acts c.begin_look.ensures refl)
    (left_then _ _ _ c.if-begin_look.true
    (left_ask _ (step_acts c.give_turn.ensures refl) (left_after (step_acts c.give_turn.ensures refl))))) in
    call_as (BeginsWithTurn c.args.sel mode known) (Err BeginError.ClosedSelector) (λ acts run. run) call

pub begin_below-requires-clause-may : goal.begin_below-requires-clause-may
begin_below-requires-clause-may c =
    fill_stays c.look_keys-bound.ensures refl (fill_stays c.begin_look.ensures refl c.requires.may)

pub begin_below-requires-clause-begun : goal.begin_below-requires-clause-begun
begin_below-requires-clause-begun c =
    begun_stays c.look_keys-bound.ensures refl refl
    (begins c.begin_look.ensures c.if-begin_look.false c.requires.may.ready c.requires.may.selector)

pub begin_below-requires-clause-bound : goal.begin_below-requires-clause-bound
begin_below-requires-clause-bound c = mark_inside (step_acts c.look_keys-bound.ensures refl)

pub returns-clause-call : goal.returns-clause-call
returns-clause-call c = λ mode.
    let known = known_of c.args.asked.now in
    let answer = begun_with c.args.sel mode c.begin_below.new.asked c.begin_below.result in
    let lacks = begin_lacks_memory answer in
    let below : CallClause c.args.me (Completes (begin_below c.args.sel mode known c.look_keys-bound.result lacks))
    (view c.args.w.now c.look_keys-bound.new.p) (view c.args.w.now c.begin_below.new.p) answer =
    call_as _ _ (λ acts run. run) (c.begin_below.ensures.call mode) in
    let call : CallClause c.args.me (Completes (begin_with_turn c.args.sel mode known lacks))
    (view c.args.w.now c.args.p.now) (view c.args.w.now c.begin_below.new.p) answer =
    returned (left_ask _ (step_acts c.begin_look.ensures refl)
    (left_else _ _ _ c.if-begin_look.false
    (left_ask _ (step_acts c.look_keys-bound.ensures refl) (left_of_call below)))) in
    call_as (BeginsWithTurn c.args.sel mode known) answer (λ acts run. run) call

pub returns-clause-taken : goal.returns-clause-taken
returns-clause-taken c =
    let rest = (c.begin_below.ensures.call WithoutWaiting).acts in
    let looks = step_acts c.look_keys-bound.ensures refl in
    taken_after c.args.sel c.args.me _ c.begin_below.new.asked.changed c.begin_below.result
    (step_acts c.begin_look.ensures refl) (acts_after c.args.sel c.args.me looks rest) (λ i. refl)
    (taken_after c.args.sel c.args.me _ c.begin_below.new.asked.changed c.begin_below.result looks rest (λ i. refl)
    c.begin_below.ensures.taken)
