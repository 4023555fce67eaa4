use Rattle.std.proofs.Common.{◌≡◌, refl, ap, sym}
use Rattle.nio_history.proofs.PassViews.{acts_then}
use Rattle.nio_words.proofs.Views.{step_acts}
use Rattle.nio_select.specs.InHand.{selection_of}
use Rattle.nio_select.proofs.Begun.{begun_stays}
use Rattle.nio_select.proofs.Again.{never_again}
use Rattle.nio_select.proofs.Ended.{again_unmarked, over, goes_again}
use Rattle.nio_select.proofs.KeyChanges.{takes_after, takes_step}
use Rattle.nio_select.proofs.selecting.Selecting.after_marks.Goals as goal

pub end-requires : goal.end-requires
end-requires g c =
    record {
      begun = begun_stays c.look_interrupt-interrupted.ensures refl refl
          (begun_stays c.look_gate-gate.ensures refl refl c.requires.begun);
    }

pub returns-clause-call : goal.returns-clause-call
returns-clause-call g c =
    over (selection_of c.args.self) c.args.elapsed c.args.count c.self.inside.mode c.why_ended-why.result
    (ap (λ x. x.selector) c.self.view_is) (ap (λ x. x.mode) c.self.view_is)
    (step_acts c.look_gate-gate.ensures refl) (step_acts c.look_interrupt-interrupted.ensures refl)
    (sym c.if-is_again.ensures) c.why_ended-why.ensures c.end.ensures.call

pub returns-then-is_again-clause-call : goal.returns-then-is_again-clause-call
returns-then-is_again-clause-call g c =
    goes_again (selection_of c.args.self) c.args.elapsed c.args.count c.self.inside.mode
    (ap (λ x. x.selector) c.self.view_is) (ap (λ x. x.mode) c.self.view_is)
    (step_acts c.look_gate-gate.ensures refl) (step_acts c.look_interrupt-interrupted.ensures refl)
    (sym c.if-is_again.ensures)

pub returns-clause-nothing : goal.returns-clause-nothing
returns-clause-nothing g c =
    never_again (λ _. (c.args.count ≡ 0) × (c.end.new.lister ≡ c.args.lister.now)) c.end.result c.end.ensures.over

pub returns-then-is_again-clause-nothing : goal.returns-then-is_again-clause-nothing
returns-then-is_again-clause-nothing g c = (
  again_unmarked c.self.inside.mode c.args.count c.look_gate-gate.result c.look_interrupt-interrupted.result
      c.args.elapsed (sym c.if-is_again.ensures),
  refl,
)

pub returns-clause-listed : goal.returns-clause-listed
returns-clause-listed g c = λ asked.
    let looks = step_acts c.look_gate-gate.ensures refl in
    let asks = step_acts c.look_interrupt-interrupted.ensures refl in
    takes_after asked looks refl (acts_then _ _ _ _ _ _ asks c.end.ensures.call.acts)
    (takes_after asked asks refl c.end.ensures.call.acts (c.end.ensures.listed asked))

pub returns-then-is_again-clause-listed : goal.returns-then-is_again-clause-listed
returns-then-is_again-clause-listed g c = λ asked.
    let looks = step_acts c.look_gate-gate.ensures refl in
    let asks = step_acts c.look_interrupt-interrupted.ensures refl in
    takes_after asked looks refl asks (takes_step asked c.args.lister.now asks refl)
