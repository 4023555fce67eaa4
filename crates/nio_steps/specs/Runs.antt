-- What follows a plan: the acts of a caller that are steps along it.
use Rattle.std.specs.Prelude.{◌≡◌, List, [], ◌∷◌}
use Rattle.nio_history.specs.Questions.{question_of, answer_of}
use Rattle.nio_history.specs.declared.act.Act.{Act}
use Rattle.nio_steps.specs.Plan.{Plan, reply, ask}

-- these acts ask what the plan asks, one after the other, each with the answer that decides what comes
-- next; `rest` is left of the plan after them
abbrev pub Follows : {R : Type 0} → Plan R → List Act → Plan R → Type 0
Follows plan [] rest = plan ≡ rest
Follows (reply r) (act ∷ acts) rest = ⊥
Follows (ask question next) (act ∷ acts) rest = (question_of act ≡ question) × Follows (next (answer_of act)) acts rest

-- these acts are a whole run of the plan, to this reply
abbrev pub Completes : {R : Type 0} → Plan R → List Act → R → Type 0
Completes plan acts answer = Follows plan acts (reply answer)
