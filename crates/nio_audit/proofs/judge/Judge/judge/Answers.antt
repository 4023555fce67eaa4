use Rattle.std.proofs.Common.{refl, sym, ◌∙◌}
use Rattle.nio_audit.proofs.Judging.{step_iff, step-bounded, follows-more}
use Rattle.nio_audit.proofs.judge.Judge.judge.Goals as goal

pub returns-then-not-is_step-clause-step : goal.returns-then-not-is_step-clause-step
returns-then-not-is_step-clause-step c = (
  λ h. absurd cc,
  λ step. sym c.if-not-is_step.true ∙ c.is_step.ensures.1 ((step_iff c.args.event.now c.requires.follows).1 step),
)

pub record-requires-clause-serial : goal.record-requires-clause-serial
record-requires-clause-serial c =
    step-bounded c.args.event.now c.requires.fit c.requires.follows c.requires.legal (c.is_step.ensures.0 c.if-not-is_step.false)

pub returns-clause-step : goal.returns-clause-step
returns-clause-step c =
    (λ h. (step_iff c.args.event.now c.requires.follows).0 (c.is_step.ensures.0 c.if-not-is_step.false), λ step. refl)

pub returns-clause-follows : goal.returns-clause-follows
returns-clause-follows c =
    follows-more c.args.event.now c.requires.follows c.requires.legal (c.is_step.ensures.0 c.if-not-is_step.false)
    (record {
      state = c.in_ok-record.ensures.state;
      channels = c.in_ok-record.ensures.channels;
      keys = c.in_ok-record.ensures.keys;
      before = c.in_ok-record.ensures.before;
      knowledge = c.in_ok-record.ensures.knowledge;
    })
