use Rattle.nio_script.proofs.Checking.{ends_legal, ends_illegal}
use Rattle.nio_script.proofs.check.check_calls.Goals as goal

pub returns-in-Ok-None-clause-ends : goal.returns-in-Ok-None-clause-ends
returns-in-Ok-None-clause-ends g c =
    ends_legal _ _ _ _ (rw c.in-Ok-None.field-0-is at c.in-Ok-None.ensures.legal) c.say_legal.ensures.ends

pub returns-in-Ok-Some-clause-ends : goal.returns-in-Ok-Some-clause-ends
returns-in-Ok-Some-clause-ends g c =
    let wrong = c.in-Ok-Some.wrong in
    ends_illegal _ _ _ _ wrong.number wrong.right (rw c.in-Ok-Some.field-0-is at c.in-Ok-Some.ensures.illegal)
    c.say_illegal.ensures.status
