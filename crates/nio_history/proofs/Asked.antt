-- A step that found what the state answers is the one that its question comes to.
use Rattle.std.proofs.Common.{◌≡◌}
use Rattle.nio_base.specs.declared.numbers.CallerNo.{CallerNo}
use Rattle.nio_history.specs.Answers.{act_from, Answers}
use Rattle.nio_history.specs.Questions.{question_of}
use Rattle.nio_history.specs.State.{State}
use Rattle.nio_history.specs.declared.act.Act.{Act}
use Rattle.nio_history.specs.declared.act.Act.TheVariants.{DrawBit}

pub act_from-question_of : (st : State) (me : CallerNo) (act : Act) → Answers st me act
    → act ≡ act_from st me (question_of act)
act_from-question_of st me (DrawBit n found) answers = cc
act_from-question_of st me act answers = cc
