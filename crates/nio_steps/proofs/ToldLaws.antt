-- What a `told` marks.
use Rattle.std.proofs.Common.{◌≡◌, ℕ, ◌==◌, Bool, true, false, not, Result, Ok, Err, List, refl, IsTrue}
use Rattle.std.specs.Prelude.{⊤}
use Rattle.std.specs.List.{Contains}
use Rattle.std.proofs.lemmas.List.Elements.{All-contains, All-contains_itself}
use Rattle.nio_history.specs.Questions.{Question, question_of}
use Rattle.nio_history.specs.declared.act.Act.TheVariants.{Mark}
use Rattle.nio_history.specs.declared.found.Mark.{Mark as KeyMark}
use Rattle.nio_steps.proofs.EachLaws.{each_bind, each_if, each_over, each_run}
use Rattle.nio_steps.proofs.SelectionAsks.{each_end}
use Rattle.nio_steps.proofs.Each.{Each}
use Rattle.nio_steps.specs.Laws.{MarksAsTold, MarksOnlyAsTold}
use Rattle.nio_steps.specs.Plan.{reply, ◌>>=◌}
use Rattle.nio_steps.specs.SelectCalls.{Selection, told_plan, told_bits, mark_entry, mark_told, mark_looked, mark_again}
use Rattle.nio_steps.specs.SelectCalls.{gains_nothing, end_selection, again}
use Rattle.nio_steps.specs.Steps.{mark, mark_in, exchange_in}
use Rattle.nio_steps.specs.Sweeps.{sweep_over}
use Rattle.nio_steps.specs.declared.looked.LookedKey.{LookedKey}

-- a question for a mark is such a one
abbrev AsksAsTold : Selection → List (ℕ × ℕ) → Question → Type 0
AsksAsTold selection pairs (Question.mark s i from told) = MarksAsTold selection pairs s i told
AsksAsTold selection pairs _ = ⊤

module _ (selection : Selection) (pairs : List (ℕ × ℕ)) where
  abbrev Asks : Question → Type 0
  Asks = AsksAsTold selection pairs

  again-as_told : (i told : ℕ) (found : Result (Unit {0}) KeyMark)
      → MarksAsTold selection pairs selection.selector i told
      → Each Asks (λ _. ⊤) (mark_again selection.selector i told found)
  again-as_told i told (Ok u) fits = tt
  again-as_told i told (Err stands) fits = (fits, λ _. tt)

  mark-as_told : (i told : ℕ) → MarksAsTold selection pairs selection.selector i told
      → Each Asks (λ _. ⊤) (mark_looked selection.selector i told)
  mark-as_told i told fits = (
    tt,
    λ was. each_if {R = ℕ} Asks (λ _. ⊤) (gains_nothing (mark_in was) told) (reply 0)
        (mark selection.selector i (mark_in was) told >>= mark_again selection.selector i told)
        (λ _. tt) (λ _. (fits, λ first. again-as_told i told (exchange_in first) fits)),
  )

  not_false : (b : Bool) → b ≡ false → IsTrue (not b)
  not_false true e = absurd (cc e)
  not_false false e = refl

  entry-as_told : (entry : LookedKey) (count : ℕ) → Contains selection.looked entry
      → Each Asks (λ _. ⊤) (mark_entry selection.selector pairs entry count)
  entry-as_told entry count looked =
      let told = told_bits pairs entry in
      each_bind Asks (λ _. ⊤) (λ _. ⊤) (mark_told selection.selector entry.index told) _
      (each_if {R = ℕ} Asks (λ _. ⊤) (told == 0) (reply 0) (mark_looked selection.selector entry.index told) (λ _. tt)
      (λ some. mark-as_told entry.index told
      (record {
        entry = entry;
        looked = looked;
        on_selector = refl;
        at_index = refl;
        bits = refl;
        some = not_false _ some;
      })))
      (λ marked _. tt)

  told-as_told : (elapsed : Bool) → Each Asks (λ _. ⊤) (told_plan selection pairs elapsed)
  unfolding told_plan
  told-as_told elapsed =
      each_bind Asks (λ _. ⊤) (λ _. ⊤) (sweep_over selection.looked (mark_entry selection.selector pairs) 0) _
      (each_over Asks (Contains selection.looked) (λ _. ⊤) selection.looked (mark_entry selection.selector pairs) 0
      (All-contains_itself selection.looked) tt (λ entry count looked _. entry-as_told entry count looked))
      (λ count _. (
        tt,
        λ gate. (
          tt,
          λ interrupted. each_if Asks (λ _. ⊤) _ (reply (again selection)) (end_selection selection _) (λ _. tt)
              (λ _. each_end Asks (λ _. ⊤) selection _ tt
              (record {
                frees = λ _. tt;
                touched = λ _. tt;
                takes = λ _. tt;
                at = λ _. record {
                  looks = tt;
                  looks_interest = tt;
                  removes = tt;
                  puts = tt;
                  looks_index = tt;
                  touches = tt;
                };
              }) tt tt tt),
        ),
      ))

pub marks_only_as_told : MarksOnlyAsTold
marks_only_as_told selection poll acts answer run s i told from found there =
    let asks =
    (each_run (AsksAsTold selection poll.pairs) (λ _. ⊤) (told_plan selection poll.pairs poll.elapsed) acts answer
    (told-as_told selection poll.pairs poll.elapsed) run).0 in
    All-contains (λ act. AsksAsTold selection poll.pairs (question_of act)) acts (Mark s i from told found) asks there
