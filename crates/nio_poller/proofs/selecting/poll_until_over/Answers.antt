use Rattle.std.proofs.Common.{◌≡◌, refl, ap, ◌∙◌}
use Rattle.nio_select.specs.InHand.{InHand, selection_of}
use Rattle.nio_select.specs.InProgress.{Selects}
use Rattle.nio_words.specs.Views.{view}
use Rattle.nio_poller.proofs.Telling.{so_far_none, goes_on, is_over, is_left, one_as, leaves_as, if_again, why_left}
use Rattle.nio_poller.proofs.selecting.poll_until_over.Goals as goal

pub loop-init : goal.loop-init
loop-init g c = (
  c.requires.ready,
  c.requires.begun,
  refl,
  so_far_none _ _ _ _ _ c.requires.ready.pass.legal,
  refl,
  g.met.P.Poller.kept_same _,
)

pub loop-preserved : goal.loop-preserved
loop-preserved g c =
    let again = c.in-Ok-Again.ensures in
    let on = if_again (λ (s : InHand). (s ≡ c.loop.selection) × Selects (view c.args.w.now c.poll_once.new.p) c.args.me (selection_of s))
    _ c.in-Ok-Again.next c.in-Ok-Again.field-0-is again.goes_on in (
      again.ready,
      on.1,
      on.0 ∙ c.loop.invariant.2,
      goes_on c.loop.invariant.3 c.in-Ok-Again.next
          (one_as (selection_of c.args.selection) (selection_of c.loop.selection) _ _ (ap selection_of c.loop.invariant.2)
          c.in-Ok-Again.field-0-is again.call),
      again.cause.still (λ failed. cc failed) ∙ c.loop.invariant.4,
      g.met.P.Poller.kept_on _ _ _ c.loop.invariant.5 again.kept,
    )

pub returns-in-Ok-Done-clause-call : goal.returns-in-Ok-Done-clause-call
returns-in-Ok-Done-clause-call g c =
    let over = c.in-Ok-Done.ensures in
    is_over c.loop.invariant.3 c.in-Ok-Done.answer c.in-Ok-Done.list
    (one_as (selection_of c.args.selection) (selection_of c.loop.selection) _ _ (ap selection_of c.loop.invariant.2)
    c.in-Ok-Done.field-0-is over.call)

pub returns-in-Err-clause-call : goal.returns-in-Err-clause-call
returns-in-Err-clause-call g c =
    let failed = c.in-Err.ensures in
    is_left c.loop.invariant.3 _ (why_left c.in-Err.field-0.error c.error_of.result c.error_of.ensures)
    (leaves_as (selection_of c.args.selection) (selection_of c.loop.selection) (ap selection_of c.loop.invariant.2)
    failed.call)
