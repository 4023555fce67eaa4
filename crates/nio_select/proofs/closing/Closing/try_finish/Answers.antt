use Rattle.std.proofs.Common.{◌≡◌, true, false, refl, subst, sym, ◌∙◌}
use Rattle.std.specs.Prelude.{is_some}
use Rattle.nio_history.specs.Conditions.{is_closer, IsSelector}
use Rattle.nio_steps.proofs.CallLaws.{returned, left_ask, left_then, left_else, left_after, left_of_call}
use Rattle.nio_steps.proofs.StandLaws.{closings_stand}
use Rattle.nio_steps.specs.Calls.{CallClause}
use Rattle.nio_steps.specs.Runs.{Completes}
use Rattle.nio_steps.specs.SelectCalls.{try_finish_plan, closed, busy}
use Rattle.nio_words.proofs.Views.{step_acts}
use Rattle.nio_words.specs.Passes.{limits_of, seen, state_seen}
use Rattle.nio_words.specs.Views.{view}
use Rattle.nio_select.proofs.Entered.{entered_now}
use Rattle.nio_select.proofs.closing.Closing.try_finish.Goals as goal

pub enter-requires-clause-closer : goal.enter-requires-clause-closer
enter-requires-clause-closer c =
    subst (λ s. is_closer (state_seen c.args.p.now) c.args.me s ≡ true) (sym c.self.view_is)
    (closings_stand (limits_of c.args.w.now) c.args.me (seen c.args.p.now) c.args.self c.requires.ready.pass.legal
    c.requires.closing.closing)

pub returns-then-is_some-clause-call : goal.returns-then-is_some-clause-call
unfolding try_finish_plan
returns-then-is_some-clause-call c =
    let is : is_some c.enter.result ≡ true = sym c.is_some.ensures ∙ c.if-is_some.true in
    subst (λ s. CallClause c.args.me (Completes (try_finish_plan s)) (view c.args.w.now c.args.p.now)
    (view c.args.w.now c.enter.new.p) busy) c.self.view_is
    (returned
    (left_ask _ (step_acts c.enter.ensures refl)
    (left_then _ _ _ is (left_after (step_acts c.enter.ensures refl)))))

pub remove_keys-requires : goal.remove_keys-requires
remove_keys-requires c = record {
  entered = entered_now c.enter.result c.enter.ensures (sym c.is_some.ensures ∙ c.if-is_some.false) c.requires.ready
      (subst (IsSelector (limits_of c.args.w.now)) (sym c.self.view_is) c.requires.closing.inside)
      (subst (λ s. is_closer (state_seen c.args.p.now) c.args.me s ≡ true) (sym c.self.view_is)
      (closings_stand (limits_of c.args.w.now) c.args.me (seen c.args.p.now) c.args.self c.requires.ready.pass.legal
      c.requires.closing.closing));
}

pub returns-clause-call : goal.returns-clause-call
unfolding try_finish_plan
returns-clause-call c =
    let is : is_some c.enter.result ≡ false = sym c.is_some.ensures ∙ c.if-is_some.false in
    subst (λ s. CallClause c.args.me (Completes (try_finish_plan s)) (view c.args.w.now c.args.p.now)
    (view c.args.w.now c.remove_keys.new.p) closed) c.self.view_is
    (returned
    (left_ask _ (step_acts c.enter.ensures refl) (left_else _ _ _ is (left_of_call c.remove_keys.ensures.call))))
