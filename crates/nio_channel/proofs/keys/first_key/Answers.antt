use Rattle.std.proofs.Common.{◌<◌, refl, rules, arith, ◌∙◌}
use Rattle.std.proofs.lemmas.Bool.{or_from}
use Rattle.nio_history.proofs.PassViews.{acts_nothing}
use Rattle.nio_history.specs.OwnEvents.{reopens}
use Rattle.nio_steps.proofs.CallLaws.{returned, left_reply, left_start}
use Rattle.nio_steps.proofs.SweepLaws.{seek_no, seek_yes, seek_done}
use Rattle.nio_steps.specs.Plan.{reply}
use Rattle.nio_words.specs.Views.{view}
use Rattle.nio_channel.proofs.Done.{has_done, has_then}
use Rattle.nio_channel.proofs.keys.first_key.Goals as goal

pub loop-sel-init : goal.loop-sel-init
loop-sel-init c = (
  c.requires,
  λ s below. absurd (omega arith),
  left_reply (left_start _ _ _ c.requires.ready.pass.legal),
  has_done (reopens c.args.number.0) (acts_nothing c.args.me (view c.args.w.now c.args.p.now)
      c.requires.ready.pass.legal),
)

pub returns-in-Some-clause-call : goal.returns-in-Some-clause-call
returns-in-Some-clause-call c =
    returned (seek_yes _ _ _ reply _ (search rules) c.loop-sel.invariant.2 c.in-Some.ensures.call)

pub returns-in-Some-clause-spares : goal.returns-in-Some-clause-spares
returns-in-Some-clause-spares c =
    has_then (reopens c.args.number.0) c.loop-sel.invariant.2.acts c.in-Some.ensures.call.acts
    ∙ or_from _ _ c.loop-sel.invariant.3 c.in-Some.ensures.spares

pub loop-sel-preserved : goal.loop-sel-preserved
loop-sel-preserved c = (
  c.in_default.ensures.held c.loop-sel.invariant.0,
  c.in_default.ensures.clear refl c.loop-sel.invariant.1,
  seek_no _ _ _ reply (search rules) c.loop-sel.invariant.2 c.in_default.ensures.call,
  has_then (reopens c.args.number.0) c.loop-sel.invariant.2.acts c.in_default.ensures.call.acts
      ∙ or_from _ _ c.loop-sel.invariant.3 c.in_default.ensures.spares,
)

pub returns-clause-call : goal.returns-clause-call
returns-clause-call c = returned (seek_done _ _ _ reply (search rules) c.loop-sel.invariant.2)

pub returns-clause-clear : goal.returns-clause-clear
returns-clause-clear c = λ _ s below.
    let before : s < c.loop-sel.sel = search rules in
    c.loop-sel.invariant.1 s before

pub returns-clause-spares : goal.returns-clause-spares
returns-clause-spares c = c.loop-sel.invariant.3
