use Rattle.std.proofs.Common.{◌≡◌, None, Result, Ok, Err, true, refl, ◌∙◌, ap, rules, subst}
use Rattle.nio_steps.proofs.WaitingLaws.{try_more}
use Rattle.nio_steps.specs.SelectCalls.{Selection, begin_finds_busy}
use Rattle.nio_steps.specs.declared.refusal.BeginError.{BeginError}
use Rattle.nio_steps.specs.declared.refusal.BeginError.TheVariants as begin_error
use Rattle.nio_select.specs.InHand.{HeldSelector, TakesOnList, known_by, selection_of}
use Rattle.nio_select.specs.Listed.{ok_seen}
use Rattle.nio_poller.proofs.Trying.{begin_last, begins_on}
use Rattle.nio_poller.proofs.selecting.begin.Goals as goal

pub loop-preserved : goal.loop-preserved
loop-preserved g c =
    let tried = c.in-Err-Busy.ensures in
    let seen : Result Selection BeginError = ok_seen selection_of c.begin.result in
    let again : begin_finds_busy seen ≡ true = search rules in (
      tried.ready,
      tried.refused.1,
      tried.refused.0 ∙ c.loop.invariant.2,
      try_more tt seen c.loop.invariant.3
          (begins_on c.args.selector.now c.loop.selector c.args.mode seen c.loop.invariant.2 c.begin.ensures.call)
          again,
    )

pub returns-in-Ok-clause-call : goal.returns-in-Ok-clause-call
returns-in-Ok-clause-call g c =
    begin_last c.args.selector.now.number c.args.mode (known_by c.args.selector.now) _ (Ok (selection_of c.in-Ok.selection))
    refl refl c.loop.invariant.3
    (begins_on c.args.selector.now c.loop.selector c.args.mode (Ok (selection_of c.in-Ok.selection)) c.loop.invariant.2
    c.in-Ok.ensures.call)

pub returns-in-Ok-clause-lent : goal.returns-in-Ok-clause-lent
returns-in-Ok-clause-lent g c = (
  c.in-Ok.ensures.lent.0 ∙ ap (λ (s : HeldSelector). record s { list = None }) c.loop.invariant.2,
  subst (λ (s : HeldSelector). TakesOnList s c.in-Ok.selection) c.loop.invariant.2 c.in-Ok.ensures.lent.1,
)

pub returns-in-Err-ClosedSelector-clause-call : goal.returns-in-Err-ClosedSelector-clause-call
returns-in-Err-ClosedSelector-clause-call g c =
    begin_last c.args.selector.now.number c.args.mode (known_by c.args.selector.now) (Err c.in-Err-ClosedSelector.field-0)
    (Err begin_error.ClosedSelector) (ap Err c.in-Err-ClosedSelector.field-0-is) refl c.loop.invariant.3
    (begins_on c.args.selector.now c.loop.selector c.args.mode (Err c.in-Err-ClosedSelector.field-0) c.loop.invariant.2
    c.in-Err-ClosedSelector.ensures.call)

pub returns-in-Err-Memory-clause-call : goal.returns-in-Err-Memory-clause-call
returns-in-Err-Memory-clause-call g c =
    begin_last c.args.selector.now.number c.args.mode (known_by c.args.selector.now) (Err c.in-Err-Memory.field-0)
    (Err begin_error.Memory) (ap Err c.in-Err-Memory.field-0-is) refl c.loop.invariant.3
    (begins_on c.args.selector.now c.loop.selector c.args.mode (Err c.in-Err-Memory.field-0) c.loop.invariant.2
    c.in-Err-Memory.ensures.call)
