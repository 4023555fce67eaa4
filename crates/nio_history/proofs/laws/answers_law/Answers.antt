use Rattle.nio_history.proofs.WhatIsFound.{finds_what_answers}
use Rattle.nio_history.proofs.laws.answers_law.Goals as goal

pub returns : goal.returns
returns c = finds_what_answers
