-- A call that nobody comes between: each question comes to the step that the state answers, and the
-- state takes its effect.
use Rattle.nio_base.specs.declared.numbers.CallerNo.{CallerNo}
use Rattle.nio_history.specs.Acts.{effect}
use Rattle.nio_history.specs.Answers.{act_from}
use Rattle.nio_history.specs.Questions.{answer_of}
use Rattle.nio_history.specs.State.{State}
use Rattle.nio_steps.specs.Plan.{Plan, reply, ask}

-- what a call leaves: its reply, and the state
pub record Performed (R : Type 0) : Type 0 where
  pub answer : R
  pub state : State

-- the call of `me` with this plan, performed on a state
abbrev pub perform : {R : Type 0} → CallerNo → Plan R → State → Performed R
perform me (reply r) st = record { answer = r; state = st }
perform me (ask question next) st =
    let act = act_from st me question in
    perform me (next (answer_of act)) (effect st me act)
