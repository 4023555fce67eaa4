use Rattle.std.proofs.Common.{◌≡◌, None, Err, true, false, refl, rules}
use Rattle.std.specs.Prelude.{is_some}
use Rattle.nio_history.specs.declared.found.Mode.TheVariants.{Now as WithoutWaiting}
use Rattle.nio_select.proofs.TakenBits.{taken_after}
use Rattle.nio_steps.proofs.CallLaws.{returned, left_ask, left_then, left_else, left_after, left_of_call, call_as}
use Rattle.nio_steps.specs.Calls.{CallClause}
use Rattle.nio_steps.specs.Runs.{Completes}
use Rattle.nio_steps.specs.SelectCalls.{begin_with_turn, begin_open, begin_lacks_memory}
use Rattle.nio_steps.specs.declared.refusal.BeginError.{BeginError}
use Rattle.nio_words.proofs.Views.{step_acts, turn_taken}
use Rattle.nio_words.specs.Views.{view}
use Rattle.nio_select.specs.Asked.{known_of}
use Rattle.nio_select.specs.Beginning.{BeginsOpen, begun_with}
use Rattle.nio_select.proofs.Beginnings.{fill_stays}
use Rattle.nio_select.proofs.beginning.begin_open.Goals as goal

pub begin_with_turn-requires-clause-may : goal.begin_with_turn-requires-clause-may
begin_with_turn-requires-clause-may c = fill_stays c.take_turn.ensures refl c.requires.may

pub begin_with_turn-requires-clause-turn : goal.begin_with_turn-requires-clause-turn
begin_with_turn-requires-clause-turn c =
    let free : c.take_turn.result ≡ None = search rules in
    turn_taken (step_acts c.take_turn.ensures refl) free

pub returns-then-is_some-clause-call : goal.returns-then-is_some-clause-call
returns-then-is_some-clause-call c = λ mode.
    let known = known_of c.args.asked.now in
    let held : is_some c.take_turn.result ≡ true = search rules in
    let call : CallClause c.args.me (Completes (begin_open c.args.sel mode known false))
    (view c.args.w.now c.args.p.now) (view c.args.w.now c.take_turn.new.p) (Err BeginError.Busy) =
    returned (left_ask _ (step_acts c.take_turn.ensures refl)
    (left_then _ _ _ held (left_after (step_acts c.take_turn.ensures refl)))) in
    call_as (BeginsOpen c.args.sel mode known) (Err BeginError.Busy) (λ acts run. run) call

pub returns-clause-call : goal.returns-clause-call
returns-clause-call c = λ mode.
    let known = known_of c.args.asked.now in
    let free : is_some c.take_turn.result ≡ false = search rules in
    let answer = begun_with c.args.sel mode c.begin_with_turn.new.asked c.begin_with_turn.result in
    let lacks = begin_lacks_memory answer in
    let rest : CallClause c.args.me (Completes (begin_with_turn c.args.sel mode known lacks))
    (view c.args.w.now c.take_turn.new.p) (view c.args.w.now c.begin_with_turn.new.p) answer =
    call_as _ _ (λ acts run. run) (c.begin_with_turn.ensures.call mode) in
    let call : CallClause c.args.me (Completes (begin_open c.args.sel mode known lacks))
    (view c.args.w.now c.args.p.now) (view c.args.w.now c.begin_with_turn.new.p) answer =
    returned (left_ask _ (step_acts c.take_turn.ensures refl) (left_else _ _ _ free (left_of_call rest))) in
    call_as (BeginsOpen c.args.sel mode known) answer (λ acts run. run) call

pub returns-clause-taken : goal.returns-clause-taken
returns-clause-taken c =
    taken_after c.args.sel c.args.me _ c.begin_with_turn.new.asked.changed c.begin_with_turn.result
    (step_acts c.take_turn.ensures refl) (c.begin_with_turn.ensures.call WithoutWaiting).acts (λ i. refl)
    c.begin_with_turn.ensures.taken
