use Rattle.std.proofs.Common.{◌≡◌, ℕ, Bool, true, false, Err, take, refl, ap, sym, ◌∙◌, subst, arith}
use Rattle.std.proofs.lemmas.List.{take_all}
use Rattle.std.proofs.lemmas.Result.{err_from_is_err_and}
use Rattle.std.specs.Bool.{OnTrue}
use Rattle.nio_audit.proofs.Firsts.{judged-none, judged-more, first-illegal, first-one, first-here, take-next}
use Rattle.nio_audit.specs.Audit.{IsFirstNoStep}
use Rattle.nio_audit.specs.Following.{HasJudged}
use Rattle.nio_audit.specs.declared.auditing.AuditError.TheVariants.{NotAStep}
use Rattle.nio_audit.proofs.auditing.judged.Goals as goal
use Rattle.nio_base.specs.Limits.{IsFit}
use Rattle.nio_base.specs.declared.limits.Limits.{Limits}
use Rattle.nio_history.specs.Histories.{IsLegal, IsStep}

refused : (b : Bool) → b ≡ false → b ≡ true → ⊥
refused b e f = cc

follows-true : {P : Type 0} (b : Bool) → b ≡ true → OnTrue b P → P
follows-true true e h = h
follows-true false e h = cc

pub loop-at-init : goal.loop-at-init
loop-at-init c = judged-none c.new-judge.ensures.limits c.new-judge.ensures.follows

pub judge-requires-clause-fit : goal.judge-requires-clause-fit
judge-requires-clause-fit c = subst IsFit (sym c.loop-at.invariant.limits) c.requires

pub judge-requires-clause-legal : goal.judge-requires-clause-legal
judge-requires-clause-legal c =
    subst (λ (l : Limits). IsLegal l (take c.loop-at.at c.args.events.now))
    (sym c.loop-at.invariant.limits) c.loop-at.invariant.legal

pub judge-requires-clause-follows : goal.judge-requires-clause-follows
judge-requires-clause-follows c = c.loop-at.invariant.follows

pub returns-in_err-judge-clause-ok : goal.returns-in_err-judge-clause-ok
returns-in_err-judge-clause-ok c = λ judged.
    let p = err_from_is_err_and c.from_residual.result c.from_residual.ensures.1 in absurd (judged (p.1 ∙ ap Err p.2))

pub returns-in_err-judge-clause-not_a_step : goal.returns-in_err-judge-clause-not_a_step
returns-in_err-judge-clause-not_a_step c = λ place judged.
    let p = err_from_is_err_and c.from_residual.result c.from_residual.ensures.1 in absurd (judged (p.1 ∙ ap Err p.2))

pub returns-then-not-branch-clause-ok : goal.returns-then-not-branch-clause-ok
returns-then-not-branch-clause-ok c = λ judged.
    let first = first-here c.index-events-at.result c.loop-at-test.true c.index-events-at.is c.loop-at.invariant.legal
    (λ step. refused c.in_ok-judge.field-0 c.if-not-branch.true
    (c.in_ok-judge.ensures.step.1
    (subst (λ (l : Limits). IsStep l (take c.loop-at.at c.args.events.now) c.index-events-at.result)
    (sym c.loop-at.invariant.limits) step))) in
    (λ h. absurd cc, λ legal. absurd (first-illegal _ _ _ legal first))

pub returns-then-not-branch-clause-not_a_step : goal.returns-then-not-branch-clause-not_a_step
returns-then-not-branch-clause-not_a_step c = λ place judged.
    let first = first-here c.index-events-at.result c.loop-at-test.true c.index-events-at.is c.loop-at.invariant.legal
    (λ step. refused c.in_ok-judge.field-0 c.if-not-branch.true
    (c.in_ok-judge.ensures.step.1
    (subst (λ (l : Limits). IsStep l (take c.loop-at.at c.args.events.now) c.index-events-at.result)
    (sym c.loop-at.invariant.limits) step))) in (
      λ h. let same : c.loop-at.at ≡ place = cc in subst (IsFirstNoStep c.args.limits c.args.events.now) same first,
      λ other. ap (λ (n : ℕ). Err (NotAStep n)) (first-one _ _ _ _ first other),
    )

pub loop-at-preserved : goal.loop-at-preserved
loop-at-preserved c =
    let e = c.index-events-at.result in
    subst (HasJudged c.judge.new.self c.args.limits)
    (sym (take-next c.args.events.now c.loop-at.at e c.loop-at-test.true c.index-events-at.is))
    (judged-more e c.loop-at.invariant c.judge.ensures.limits (c.in_ok-judge.ensures.step.0 c.if-not-branch.false)
    (follows-true c.in_ok-judge.field-0 c.if-not-branch.false c.in_ok-judge.ensures.follows))

pub returns-clause-ok : goal.returns-clause-ok
returns-clause-ok c = λ judged.
    let whole = take_all c.loop-at.at c.args.events.now (omega arith) in
    (λ h. subst (IsLegal c.args.limits) whole c.loop-at.invariant.legal, λ legal. refl)

pub returns-clause-not_a_step : goal.returns-clause-not_a_step
returns-clause-not_a_step c = λ place judged.
    let whole = take_all c.loop-at.at c.args.events.now (omega arith) in (
      λ h. absurd cc,
      λ first. absurd (first-illegal _ _ _ (subst (IsLegal c.args.limits) whole c.loop-at.invariant.legal) first),
    )

pub returns-clause-judge : goal.returns-clause-judge
returns-clause-judge c =
    subst (HasJudged c.loop-at.judge c.args.limits) (take_all c.loop-at.at c.args.events.now (omega arith))
    c.loop-at.invariant
