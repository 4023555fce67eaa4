-- A look-up that finds something finds what it looked for.
use Rattle.std.proofs.Common.{◌≡◌, ℕ, Bool, true, false, if◌then◌else◌, Some, None, List, [], ◌∷◌}
use Rattle.nio_base.specs.declared.limits.Limits.{Limits}
use Rattle.nio_base.specs.declared.numbers.SelNo.{SelNo}
use Rattle.nio_history.specs.Questions.{Question, Answer, answer_of}
use Rattle.nio_history.specs.declared.act.Act.{Act}
use Rattle.nio_steps.specs.KeyCalls.{find_selector_plan}
use Rattle.nio_steps.specs.Names.{selector}
use Rattle.nio_steps.specs.Plan.{reply, ask}
use Rattle.nio_steps.specs.Runs.{Completes}

found_here : {A : Type 0} (test : Bool) (y x : A) → reply (if test then Some y else None) ≡ reply (Some x)
    → x ≡ y
found_here true y x same = cc same
found_here false y x same = absurd (cc same)

-- a look-up that is refused beforehand, or asks one question
pub found_is : {A : Type 0} (past : Bool) (question : Question) (test : Answer → Bool) (y x : A) (acts : List Act)
    → Completes
    (if past then reply None else ask question (λ answer. reply (if test answer then Some y else None)))
    acts (Some x) → x ≡ y
found_is true question test y x [] run = absurd (cc run)
found_is true question test y x (act ∷ acts) run = absurd run
found_is false question test y x [] run = absurd (cc run)
found_is false question test y x (act ∷ []) run = found_here (test (answer_of act)) y x run.1
found_is false question test y x (act ∷ more ∷ acts) run = absurd run.1

pub selector_found : (l : Limits) (n : ℕ) (acts : List Act) (s : SelNo)
    → Completes (find_selector_plan l n) acts (Some s) → s ≡ selector n
unfolding find_selector_plan
selector_found l n acts s run = found_is _ _ _ (selector n) s acts run
