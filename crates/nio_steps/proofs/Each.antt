-- What a plan does whatever the answers are.
use Rattle.nio_history.specs.Questions.{Question, Answer}
use Rattle.nio_steps.specs.Plan.{Plan, reply, ask}

-- each question of the plan is such a one, and each reply
abbrev pub Each : {R : Type 0} → (Question → Type 0) → (R → Type 0) → Plan R → Type 0
Each Asks Replies (reply r) = Replies r
Each Asks Replies (ask question next) = Asks question × ((answer : Answer) → Each Asks Replies (next answer))
