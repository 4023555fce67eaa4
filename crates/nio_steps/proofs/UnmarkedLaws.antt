-- What marks no key: the beginning of a selection, and a `told` after which it goes on.
use Rattle.std.proofs.Common.{◌≡◌, ℕ, Bool, false, Option, Result, Err, List, refl, ap, ◌∙◌}
use Rattle.std.specs.Prelude.{⊤, is_some}
use Rattle.nio_base.specs.declared.numbers.SelNo.{SelNo}
use Rattle.nio_history.specs.OwnEvents.{has, count}
use Rattle.nio_history.specs.declared.act.Act.{Act}
use Rattle.nio_history.specs.declared.found.Mode.{Mode}
use Rattle.nio_steps.proofs.Each.{Each}
use Rattle.nio_steps.proofs.EachLaws.{each_bind, each_if, each_run, split}
use Rattle.nio_steps.proofs.SelectionAsks.{each_look_at_keys}
use Rattle.nio_steps.proofs.SelectionLaws.{NoMark, Replies, after-replies, no_marks, none-count, none_of-append}
use Rattle.nio_steps.proofs.SelectionLaws.{over-counts}
use Rattle.nio_steps.proofs.Walks.{always_run}
use Rattle.nio_steps.specs.Plan.{reply}
use Rattle.nio_steps.specs.SelectCalls.{Selection, Begins, Poll, Tells, again, begin_lacks_memory, begin_below}
use Rattle.nio_steps.specs.SelectCalls.{begin_open, begin_with_turn, given_back, try_begin_plan}
use Rattle.nio_steps.specs.Looking.{look_at_keys}
use Rattle.nio_steps.specs.SelectCalls.{mark_entry, after_marks, told_plan}
use Rattle.nio_steps.specs.Selections.{marks_on}
use Rattle.nio_steps.specs.Steps.{gate_in, holder_in}
use Rattle.nio_steps.specs.Sweeps.{sweep_over}
use Rattle.nio_steps.specs.declared.looked.LookedKey.{LookedKey}
use Rattle.nio_steps.specs.declared.refusal.BeginError.{BeginError}

module _ (n : ℕ) (s : SelNo) (mode : Mode) (known : Option (List LookedKey)) (lacks : Bool) where
  below-unmarked : (bound : ℕ) → Each (NoMark n) (λ _. ⊤) (begin_below s mode known bound lacks)
  below-unmarked bound =
      each_if (NoMark n) (λ _. ⊤) lacks (given_back s (Err BeginError.Memory)) _ (λ _. (refl, λ _. tt))
      (λ _. each_bind (NoMark n) (λ _. ⊤) (λ _. ⊤) (look_at_keys s bound known) _
      (each_look_at_keys (NoMark n) s bound known
      (record {
        frees = λ _. refl;
        touched = λ _. refl;
        takes = λ _. refl;
        at = λ _. record {
          looks = refl;
          looks_interest = refl;
          removes = refl;
          puts = refl;
          looks_index = refl;
          touches = refl;
        };
      })) (λ _ _. tt))

  begin-unmarked : Each (NoMark n) (λ _. ⊤) (try_begin_plan s mode known lacks)
  unfolding try_begin_plan
  begin-unmarked = (
    refl,
    λ gate. each_if (NoMark n) (λ _. ⊤) (gate_in gate).shut (reply (Err BeginError.ClosedSelector))
        (begin_open s mode known lacks) (λ _. tt)
        (λ _. (
          refl,
          λ take. each_if (NoMark n) (λ _. ⊤) (is_some (holder_in take)) (reply (Err BeginError.Busy))
              (begin_with_turn s mode known lacks) (λ _. tt)
              (λ _. (
                refl,
                λ look. each_if (NoMark n) (λ _. ⊤) (gate_in look).shut (given_back s (Err BeginError.ClosedSelector)) _
                    (λ _. (refl, λ _. tt))
                    (λ _. (refl, λ keys. below-unmarked _)),
              )),
        )),
  )

-- beginning a selection marks no key, on any selector
pub begin_unmarked : (n : ℕ) (s : SelNo) (mode : Mode) (known : Option (List LookedKey)) (acts : List Act)
    (answer : Result Selection BeginError) → Begins s mode known acts answer → has (marks_on n) acts ≡ false
begin_unmarked n s mode known acts answer run =
    no_marks n acts
    (each_run (NoMark n) (λ _. ⊤) (try_begin_plan s mode known (begin_lacks_memory answer)) acts answer
    (begin-unmarked n s mode known (begin_lacks_memory answer)) run).0

-- a `told` after which the selection goes on marked no key, and goes on with this selection
pub again_unmarked : (selection next : Selection) (poll : Poll) (acts : List Act)
    → Tells selection poll acts (again next)
    → (next ≡ selection) × (has (marks_on selection.selector.0) acts ≡ false)
unfolding told_plan
again_unmarked selection next poll acts run =
    let s = selection.selector in
    let parts = split (sweep_over selection.looked (mark_entry s poll.pairs) 0)
    (after_marks selection poll.elapsed) acts (again next) run in
    let counted = always_run (λ xs k. count (marks_on s.0) xs ≡ k) _ parts.first parts.middle
    (over-counts s poll.pairs selection.looked) parts.runs_first in
    let after = each_run (NoMark s.0) (Replies selection parts.middle) (after_marks selection poll.elapsed parts.middle)
    parts.second (again next) (after-replies selection poll.elapsed parts.middle) parts.runs_second in
    let none_first = none-count (marks_on s.0) parts.first (counted ∙ after.1.1) in (
      after.1.0,
      ap (has (marks_on s.0)) parts.parts
          ∙ none_of-append (marks_on s.0) parts.first parts.second none_first (no_marks s.0 parts.second after.0),
    )
