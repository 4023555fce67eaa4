use Rattle.std.proofs.Common.{arith}
use Rattle.nio_steps.proofs.CallLaws.{returned, left_reply, left_start}
use Rattle.nio_steps.proofs.SweepLaws.{sweep_turn, sweep_done}
use Rattle.nio_steps.specs.Plan.{reply}
use Rattle.nio_words.specs.Views.{view}
use Rattle.nio_select.proofs.KeyChanges.{takes_nothing, takes_then}
use Rattle.nio_select.proofs.removing.remove_touched.Goals as goal

pub loop-j-init : goal.loop-j-init
loop-j-init g c = record {
  begun = c.requires.begun;
  listed = λ asked. takes_nothing asked (view c.args.w.now c.args.p.now) c.args.lister.now c.requires.begun.ready.pass.legal;
  steps = left_reply (left_start _ _ _ c.requires.begun.ready.pass.legal);
}

pub loop-j-preserved : goal.loop-j-preserved
loop-j-preserved g c = record {
  begun = c.remove_shown.ensures.begun;
  listed = λ asked. takes_then asked c.loop-j.invariant.steps.acts c.remove_shown.ensures.call.acts
      (c.loop-j.invariant.listed asked) (c.remove_shown.ensures.listed asked);
  steps = sweep_turn _ _ _ _ _ reply (omega (arith, c.loop-j-test.true, c.words_below-j-end.ensures))
      c.loop-j.invariant.steps c.remove_shown.ensures.call;
}

pub returns-clause-call : goal.returns-clause-call
returns-clause-call g c =
    returned (sweep_done _ _ _ _ reply (omega (arith, c.loop-j-test.false, c.words_below-j-end.ensures))
    c.loop-j.invariant.steps)

pub returns-clause-begun : goal.returns-clause-begun
returns-clause-begun g c = c.loop-j.invariant.begun

pub returns-clause-listed : goal.returns-clause-listed
returns-clause-listed g c = c.loop-j.invariant.listed
