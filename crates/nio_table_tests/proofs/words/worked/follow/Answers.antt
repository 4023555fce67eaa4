use Rattle.std.proofs.Common.{ℕ, ◌≡◌, true, rules, sym, subst, arith}
use Rattle.nio_table_tests.proofs.Following.{ready, may, follows_on}
use Rattle.nio_table_tests.specs.Following.{Follows}
use Rattle.nio_table_tests.proofs.words.worked.follow.Goals as goal

pub repeats-requires-clause-ready : goal.repeats-requires-clause-ready
repeats-requires-clause-ready g c =
    ready c.args.w.now c.loop-step.p c.args._from c.loop-step.step-index c.args.steps.now c.step-item.result
    c.loop-step.invariant c.requires.part c.loop-step-test.true (sym c.step-item.is)

pub repeats-requires-clause-may : goal.repeats-requires-clause-may
repeats-requires-clause-may g c =
    may c.args.w.now c.loop-step.p c.args._from c.loop-step.step-index c.args.steps.now c.step-item.result
    c.loop-step.invariant c.requires.part c.loop-step-test.true (sym c.step-item.is)

pub loop-step-preserved : goal.loop-step-preserved
loop-step-preserved g c =
    let done : c.repeats.result ≡ true = search rules in
    subst (λ (n : ℕ). Follows c.args.w.now n c.repeats.new.p) (omega arith)
    (follows_on c.args.w.now c.loop-step.p c.args._from c.loop-step.step-index c.args.steps.now c.step-item.result
    c.loop-step.invariant c.requires.part c.loop-step-test.true (sym c.step-item.is) c.repeats.new.p
    (c.repeats.ensures done))
