use Rattle.std.proofs.Common.{refl, ap}
use Rattle.nio_history.proofs.PassViews.{acts_then}
use Rattle.nio_words.proofs.Views.{step_acts}
use Rattle.nio_select.specs.InHand.{selection_of}
use Rattle.nio_select.proofs.Begun.{begun_stays}
use Rattle.nio_select.proofs.Ended.{begun_turn, ended}
use Rattle.nio_select.proofs.KeyChanges.{takes_step, takes_then}
use Rattle.nio_select.proofs.selecting.Selecting.end.Goals as goal

pub give_turn-requires-clause-turn : goal.give_turn-requires-clause-turn
give_turn-requires-clause-turn g c =
    begun_turn (begun_stays c.end_wake.ensures refl refl c.remove_all_cancelled.ensures.begun)

pub returns-clause-call : goal.returns-clause-call
returns-clause-call g c =
    ended (selection_of c.args.self) c.args.answer (ap (λ x. x.selector) c.self.view_is) c.is_listed.ensures
    c.remove_all_cancelled.ensures.call
    (step_acts c.end_wake.ensures refl) (step_acts c.give_turn.ensures refl)

pub returns-clause-listed : goal.returns-clause-listed
returns-clause-listed g c = λ asked.
    let ends = step_acts c.end_wake.ensures refl in
    let gives = step_acts c.give_turn.ensures refl in
    takes_then asked (acts_then _ _ _ _ _ _ c.remove_all_cancelled.ensures.call.acts ends) gives
    (takes_then asked c.remove_all_cancelled.ensures.call.acts ends (c.remove_all_cancelled.ensures.listed asked)
    (takes_step asked c.remove_all_cancelled.new.lister ends refl))
    (takes_step asked c.remove_all_cancelled.new.lister gives refl)
