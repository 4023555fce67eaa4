use Rattle.std.proofs.Common.{◌≡◌, Option, true, refl, ap, sym, subst}
use Rattle.std.specs.Prelude.{IfSome}
use Rattle.nio_history.specs.Conditions.{has_turn}
use Rattle.nio_steps.proofs.CallLaws.{returned, left_ask, left_after}
use Rattle.nio_steps.specs.Calls.{CallClause}
use Rattle.nio_steps.specs.Runs.{Completes}
use Rattle.nio_steps.specs.SelectCalls.{leave_plan}
use Rattle.nio_steps.specs.Steps.{give_turn}
use Rattle.nio_words.proofs.Views.{step_acts}
use Rattle.nio_words.specs.Passes.{state_seen}
use Rattle.nio_words.specs.Views.{view}
use Rattle.nio_select.specs.InHand.{HeldList}
use Rattle.nio_select.specs.InProgress.{HasList}
use Rattle.nio_select.proofs.Ended.{selecting_begun, begun_turn}
use Rattle.nio_select.proofs.Progress.{list_back}
use Rattle.nio_select.proofs.selecting.Selecting.leave.Goals as goal

pub give_turn-requires-clause-turn : goal.give_turn-requires-clause-turn
give_turn-requires-clause-turn c =
    subst (λ s. has_turn (state_seen c.args.p.now) c.args.me s ≡ true) (ap (λ x. x.selector) (sym c.self.view_is))
    (begun_turn (selecting_begun c.requires.ready c.requires.begun))

pub returns-clause-call : goal.returns-clause-call
unfolding leave_plan
returns-clause-call c =
    subst (λ s. CallClause c.args.me (Completes (give_turn s)) (view c.args.w.now c.args.p.now)
    (view c.args.w.now c.give_turn.new.p) tt) (ap (λ x. x.selector) c.self.view_is)
    (returned (left_ask _ (step_acts c.give_turn.ensures refl) (left_after (step_acts c.give_turn.ensures refl))))

pub returns-clause-back : goal.returns-clause-back
returns-clause-back c = record {
  back = c.into_list.ensures;
  had = subst (λ (o : Option HeldList). IfSome o (HasList (view c.args.w.now c.give_turn.new.p) c.args.me))
      (sym c.into_list.ensures)
      (list_back c.args.self (step_acts c.give_turn.ensures refl) c.requires.begun);
}
